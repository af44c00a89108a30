pub mod Restarts
pub mod Scans
