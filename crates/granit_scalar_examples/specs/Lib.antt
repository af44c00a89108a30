pub mod Examples
pub mod QuotedExamples
