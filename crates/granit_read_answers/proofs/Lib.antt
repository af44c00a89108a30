pub mod Misspelt
pub mod ParserSources
pub mod Refused
pub mod Sources
