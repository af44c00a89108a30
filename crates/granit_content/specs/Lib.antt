pub mod KindViews
pub mod Reads
pub mod ScalarReads
