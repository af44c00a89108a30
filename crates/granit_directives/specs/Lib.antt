pub mod DirectiveCode
pub mod PrefixCode
pub mod ReservedCode
pub mod VersionCode
pub mod WordCode
