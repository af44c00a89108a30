pub mod BareSteps
pub mod BareStream
pub mod RoomSteps
pub mod RoomStream
