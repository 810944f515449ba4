-- The laws of positions.
pub mod Positions
pub mod NearestPost
pub mod Offsets
pub mod PositionExactly
pub mod BothYears
