-- What the cell writer judges and writes, and what functions ask.
pub mod Cell
pub mod Asked
