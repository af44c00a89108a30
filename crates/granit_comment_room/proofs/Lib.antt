pub mod RowRuns
pub mod RowsFirst
