pub mod AtOnce
pub mod Eventless
pub mod Handles
pub mod Tails
