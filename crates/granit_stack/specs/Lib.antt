pub mod Including
pub mod Stacked
