pub mod BracketsKept
pub mod BracketsPassed
pub mod ColumnLists
pub mod Enclosing
pub mod KeysKept
pub mod KeysMoved
pub mod OrderSteps
