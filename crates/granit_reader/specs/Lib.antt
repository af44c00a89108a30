pub mod Meets
pub mod Reads
pub mod SortViews
pub mod Turns
pub mod WithoutMemory
