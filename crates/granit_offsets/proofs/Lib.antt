pub mod BareLexemes
pub mod BareTags
pub mod BareLaid
pub mod BareReader
pub mod BareRun
pub mod LendingLaw
