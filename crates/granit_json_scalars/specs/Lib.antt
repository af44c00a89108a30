pub mod Json
pub mod JsonEvents
pub mod JsonScalars
pub mod JsonText
