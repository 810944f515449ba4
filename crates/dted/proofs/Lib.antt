-- The proofs of the C calls.
pub mod Latitudes
