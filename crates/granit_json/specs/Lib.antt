pub mod Examples
pub mod JsonKinds
