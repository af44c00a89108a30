pub mod Classes
pub mod Counts
pub mod DocumentMark
pub mod Place
pub mod PlainContent
pub mod Spans
pub mod Texts
pub mod Written
