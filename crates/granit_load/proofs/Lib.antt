pub mod GatherLemmas
mod LineLemmas
pub mod LoadLemmas
mod StreamLemmas
