pub mod AppendLemmas
pub mod LendLemmas
pub mod OriginLemmas
pub mod QuoteTakes
pub mod QuotedLemmas
pub mod StringWords
pub mod UnreadLemmas
