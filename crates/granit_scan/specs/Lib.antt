pub mod Following
pub mod Marks
pub mod Recovering
pub mod Scanning
pub mod TokenMemory
pub mod TokenSteps
pub mod TokensTold
pub mod TokenViews
