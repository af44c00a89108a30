pub mod Stream
pub mod StreamLaws
