-- What every writer judges of heights and room, and what the column writer answers and writes.
pub mod Judged
pub mod Column
