pub mod Following
pub mod Written
