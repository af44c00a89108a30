pub mod DirectiveLaw
pub mod FirstLaw
pub mod FirstTag
pub mod LineLaw
