pub mod Events
pub mod Helpers
pub mod Names
pub mod Order
