pub mod ColumnsRise
pub mod Onward
pub mod KeysRise
pub mod SpanSteps
pub mod SpanStream
pub mod ItemSpans
pub mod SpanLaw
