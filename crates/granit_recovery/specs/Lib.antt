pub mod RecoveryRows
pub mod Streams
