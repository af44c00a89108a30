pub mod FurtherLines
pub mod LineLemmas
pub mod MemoryLemmas
pub mod PlainLemmas
pub mod WordScalars
