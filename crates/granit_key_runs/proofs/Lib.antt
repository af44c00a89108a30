pub mod HeldLaw
pub mod RunsKept
pub mod RunsLaw
pub mod RunsOnce
pub mod RunsWhole
