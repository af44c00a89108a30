pub mod StepRows
pub mod TokenLines
