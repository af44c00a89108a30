pub mod Agree
pub mod AgreeClose
pub mod AgreeStep
pub mod Guards
pub mod Limit
pub mod Settled
pub mod Withins
