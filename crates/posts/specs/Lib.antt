-- What post words and heights mean, which of them a cell may hold, and what functions ask.
pub mod Words
pub mod Heights
pub mod Parts
pub mod Spans
pub mod Asked
