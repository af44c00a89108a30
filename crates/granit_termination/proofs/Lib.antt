pub mod BlockLengths
pub mod LengthLemmas
pub mod LexLengths
pub mod ReadLengths
pub mod ScalarLengths
pub mod TagLengths
