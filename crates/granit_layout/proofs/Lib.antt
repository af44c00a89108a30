pub mod ColumnLemmas
pub mod KeyLemmas
pub mod ListLemmas
pub mod OpeningLemmas
pub mod RisingLemmas
pub mod StaleLemmas
