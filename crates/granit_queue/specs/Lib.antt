pub mod QueueViews
pub mod Rising
