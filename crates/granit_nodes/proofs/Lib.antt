pub mod AgainLemmas
mod BareLemmas
pub mod GivenLemmas
