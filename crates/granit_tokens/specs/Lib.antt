pub mod Balanced
pub mod Counted
pub mod Keys
