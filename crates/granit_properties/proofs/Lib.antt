pub mod NameLemmas
pub mod PlacedLemmas
pub mod TagLemmas
pub mod UriLemmas
pub mod WordLemmas
