pub mod FaultKind
pub mod Kinds
pub mod OptionsData
pub mod OptionsView
pub mod Refused
pub mod SameFault
