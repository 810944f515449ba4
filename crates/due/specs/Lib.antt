-- What is due in a field of the headers, as bytes, and what functions ask.
pub mod Due
pub mod Asked
