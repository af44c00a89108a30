pub mod QuotedCode
pub mod QuotedMemory
pub mod QuotedTaken
