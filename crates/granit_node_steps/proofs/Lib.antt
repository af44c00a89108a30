pub mod BlockBegins
pub mod BlockNodes
pub mod DoneCalms
pub mod FlowFlats
pub mod FlowNodes
pub mod NodeTests
pub mod PartSteps
