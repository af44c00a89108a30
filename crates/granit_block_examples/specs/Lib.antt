pub mod BlockExamples
