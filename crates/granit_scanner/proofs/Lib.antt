pub mod FrontLemmas
pub mod KnownLemmas
pub mod ReadingLemmas
pub mod RestartLemmas
