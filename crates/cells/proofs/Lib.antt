-- The laws of cells and their words.
pub mod ColumnPlaces
pub mod ColumnParts
pub mod FramedWords
pub mod MadeCells
pub mod OwnGrid
pub mod BothYears
