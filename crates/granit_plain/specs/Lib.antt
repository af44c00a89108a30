pub mod LineCode
pub mod PlainCode
pub mod PlainMemory
pub mod PlainTaken
