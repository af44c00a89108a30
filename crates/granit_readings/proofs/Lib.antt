pub mod ReadOnce
pub mod TerminalsFit
