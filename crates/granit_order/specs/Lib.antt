pub mod Order
pub mod Answers
pub mod FrameColumns
