pub mod Told
pub mod Unasked
