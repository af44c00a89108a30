pub mod Alone
pub mod Behind
pub mod Lines
