pub mod ColumnTexts
