pub mod Alone
pub mod Declaring
pub mod Found
pub mod Led
pub mod Stopping
