-- The grid of a cell, derived from its level and latitude zone, and the published table it is held against.
pub mod Levels
pub mod Zones
pub mod Grid
pub mod Ranges
pub mod Table
pub mod Asked
