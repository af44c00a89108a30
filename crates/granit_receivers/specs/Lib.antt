pub mod Kept
pub mod LoadWords
pub mod Sending
pub mod Taking
