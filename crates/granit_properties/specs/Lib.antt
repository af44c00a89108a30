pub mod PropertyTokens
pub mod TagCode
pub mod UriCode
pub mod WordCode
