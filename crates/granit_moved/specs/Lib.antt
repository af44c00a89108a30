pub mod Moved
pub mod MovedLines
