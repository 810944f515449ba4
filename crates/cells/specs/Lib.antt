-- What a cell is: by its frame, as its headers and words, and as a grid of heights.
pub mod Cell
pub mod Words
pub mod Grid
