pub mod ColumnCloses
pub mod ColumnSteps
pub mod FramesLaw
pub mod FramesRun
