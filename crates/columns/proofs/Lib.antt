-- The laws of columns.
pub mod WordSearch
pub mod ColumnExactly
pub mod Exactly
pub mod Damage
pub mod ColumnWords
pub mod ColumnHeights
pub mod WordParts
pub mod WrittenColumn
