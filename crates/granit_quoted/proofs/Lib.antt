pub mod BegunLemmas
pub mod EscapeLemmas
pub mod KeptLemmas
pub mod MemoryLemmas
pub mod QuotedLemmas
pub mod RemarkLemmas
pub mod SeenQuoted
