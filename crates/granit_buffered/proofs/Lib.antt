pub mod BufferLemmas
pub mod FallibleLemmas
pub mod FeedLemmas
pub mod HeldLemmas
pub mod KnownLemmas
pub mod SureLemmas
