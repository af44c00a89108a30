pub mod Heads
pub mod Opening
pub mod Rising
pub mod StaleKeys
pub mod Views
