pub mod AtOnceLemmas
pub mod CallLemmas
pub mod GatherLemmas
pub mod GatheredLemmas
pub mod GoesLemmas
pub mod HeldLemmas
pub mod SourceLemmas
