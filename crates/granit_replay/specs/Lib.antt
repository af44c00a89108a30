pub mod Replaying
pub mod Resolving
pub mod Sending
