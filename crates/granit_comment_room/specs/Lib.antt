pub mod RefusedRows
