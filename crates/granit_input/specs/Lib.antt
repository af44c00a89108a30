pub mod Laws
pub mod Looks
pub mod Origin
pub mod Strings
