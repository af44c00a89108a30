pub mod AgainLemmas
pub mod LeadLemmas
pub mod StarvedLemmas
pub mod StopLemmas
