pub mod EndLaws
pub mod LookShift
