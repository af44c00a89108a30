pub mod HexLemmas
pub mod NumberLemmas
pub mod PushLemmas
pub mod QuotingLemmas
pub mod RoomLemmas
