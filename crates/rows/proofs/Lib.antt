pub mod RowLaws
pub mod ColumnLaws
pub mod WordByWord
