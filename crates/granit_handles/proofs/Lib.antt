pub mod HandleLaw
pub mod HandleOnce
pub mod LimitedPrefix
pub mod LimitedTag
pub mod ReservedLaw
pub mod TagFronts
pub mod VersionLaw
