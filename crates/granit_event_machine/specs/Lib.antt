pub mod EventMachine
pub mod Guarded
pub mod OpenWithin
pub mod Passing
pub mod PlaceFrames
