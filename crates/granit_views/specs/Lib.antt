pub mod Closed
pub mod Fair
pub mod Good
pub mod Ordered
pub mod Running
pub mod Stepping
pub mod Steps
pub mod View
