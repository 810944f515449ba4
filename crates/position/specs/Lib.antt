-- What lookup of a position answers of any bytes, and what its steps ask.
pub mod Position
pub mod Asked
