pub mod Gathering
pub mod Giving
pub mod Going
pub mod Opening
pub mod Sources
pub mod Waiting
