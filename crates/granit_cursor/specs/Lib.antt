pub mod Copied
pub mod QuotedReads
pub mod Plain
pub mod Reading
pub mod Tokens
pub mod Trimmed
pub mod WithoutMemory
