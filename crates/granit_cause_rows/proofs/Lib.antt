pub mod Computing
pub mod RowLemmas
