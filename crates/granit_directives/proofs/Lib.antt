pub mod DirectiveLemmas
pub mod PrefixLemmas
pub mod ReservedLemmas
pub mod VersionLemmas
pub mod WordLemmas
