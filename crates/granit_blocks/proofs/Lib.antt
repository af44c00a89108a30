pub mod BlockCauses
pub mod BlockHeads
pub mod BlockLaw
pub mod BlockLoop
pub mod BlockSpans
pub mod Leading
pub mod LineTurns
pub mod Moving
