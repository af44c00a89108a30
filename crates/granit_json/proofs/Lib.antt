pub mod Nodes
pub mod Fronts
pub mod Values
pub mod Whole
pub mod Laws
pub mod Telling
pub mod Back
