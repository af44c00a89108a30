pub mod CauseRows
