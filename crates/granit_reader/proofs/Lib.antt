pub mod MeetLemmas
pub mod MemoryLemmas
pub mod ReadLemmas
pub mod SortLemmas
pub mod TurnLemmas
