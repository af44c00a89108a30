pub mod Kinds
pub mod Nested
pub mod Passing
pub mod Sending
pub mod Stacking
pub mod Turning
