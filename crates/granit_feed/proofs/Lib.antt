pub mod AnchorGiving
pub mod AtOnceLemmas
mod BlockGiving
mod FlowGiving
pub mod GivingLemmas
pub mod HandleLemmas
pub mod TailLemmas
mod TokenGiving
