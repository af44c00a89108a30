pub mod CharTests
pub mod DecodingLemmas
pub mod HereLemmas
pub mod PieceLemmas
pub mod PlainTurned
