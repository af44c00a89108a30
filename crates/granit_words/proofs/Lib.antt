pub mod AskLemmas
pub mod NumberLemmas
pub mod WordLemmas
