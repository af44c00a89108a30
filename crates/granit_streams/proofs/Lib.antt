pub mod Nesting
pub mod StepNesting
pub mod StreamLaws
pub mod StreamNesting
