pub mod Ids
pub mod OneDocument
