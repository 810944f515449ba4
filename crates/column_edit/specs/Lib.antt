-- What a column is after one of its posts is stored, and what storing asks.
pub mod Stored
pub mod Asked
