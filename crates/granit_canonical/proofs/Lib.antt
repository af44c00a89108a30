pub mod Laws
pub mod Trees
pub mod Whole
