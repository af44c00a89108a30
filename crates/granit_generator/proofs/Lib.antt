pub mod BlockLemmas
pub mod CountLemmas
pub mod FitLemmas
pub mod MakingLemmas
pub mod NameLemmas
