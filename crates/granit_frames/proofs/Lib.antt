pub mod CloseLemmas
pub mod EntryLemmas
pub mod FrameLemmas
