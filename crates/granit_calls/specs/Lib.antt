pub mod Asking
pub mod BoundaryPlace
pub mod Ending
