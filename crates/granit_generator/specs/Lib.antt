pub mod BlockText
pub mod Generator
pub mod GeneratorView
pub mod NodeCount
