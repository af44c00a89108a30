pub mod BehindPlaces
pub mod FrameNexts
pub mod FrameSteps
pub mod GoodSteps
pub mod MappingPlaces
pub mod SequencePlaces
pub mod StageSteps
pub mod WholeSteps
