pub mod ClosingLemmas
pub mod NoneWaits
pub mod SortLemmas
