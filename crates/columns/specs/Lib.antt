-- What a column is, how one is judged, and what functions ask.
pub mod Column
pub mod Judged
pub mod Asked
