pub mod DeclaredCause
pub mod DeclaredReading
