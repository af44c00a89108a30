pub mod KeyCounts
pub mod Laying
pub mod Openings
pub mod ReadTokens
pub mod Stacked
pub mod Stacks
pub mod TextTokens
pub mod Whole
