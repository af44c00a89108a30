pub mod FittingLemmas
pub mod MentionLemmas
pub mod TextLemmas
pub mod TreeLemmas
