pub mod Coming
pub mod Examples
pub mod Fresh
pub mod Life
