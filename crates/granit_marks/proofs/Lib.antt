pub mod DirectiveLemmas
pub mod FlowLemmas
pub mod StreamLemmas
