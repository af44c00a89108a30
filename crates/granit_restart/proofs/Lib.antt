pub mod AheadLaws
pub mod BoundaryLaws
pub mod LookLaws
pub mod LookTurns
pub mod MarkLaws
pub mod MarkReads
pub mod StartLemmas
pub mod TurnwiseLaws
