pub mod MovedEvents
pub mod MovedReader
pub mod MovedRun
pub mod MovedSteps
pub mod MovedStream
pub mod MovedTurns
