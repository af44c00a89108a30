pub mod MovedBlocks
pub mod MovedLaid
pub mod MovedLexemes
pub mod MovedTags
pub mod Sums
