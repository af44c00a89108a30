pub mod PlacementLaw
pub mod GrowSteps
pub mod GrowStream
pub mod CommentsStand
