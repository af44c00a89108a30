mod AnchorOrder
pub mod EndFeeds
pub mod EndReads
mod IdLaws
mod IdLemmas
mod IdSteps
mod OffsetLaws
mod OneLaws
pub mod TidyLaws
