-- The laws of the grid: what the functions' proofs and the callers cite.
pub mod NearEdges
pub mod Ranges
pub mod Table
pub mod ZoneOne
