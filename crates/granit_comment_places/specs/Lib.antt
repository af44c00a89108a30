pub mod Placements
pub mod CommentPlaces
