pub mod AskLaws
mod DropLaws
mod FaultLaws
mod FollowLaws
mod HeaderShapes
mod LeftLaws
mod LeftTurns
mod NoteLaws
mod PlaceLaws
mod ToldLaws
