pub mod BufferLaws
pub mod Fallible
pub mod FallibleLaws
pub mod FeedLaws
pub mod Feeds
pub mod Sure
