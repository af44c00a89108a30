pub mod Quiet
pub mod CommentEvents
