-- The laws of a C host's writers.
pub mod BytesExactly
pub mod AsHeights
