pub mod BlockRows
pub mod DocumentRows
pub mod FitRows
pub mod FlowRows
pub mod IndentlessRows
pub mod Refusals
pub mod Row
pub mod Scoped
