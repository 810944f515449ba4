-- The laws of the edit.
pub mod EditExactly
pub mod SpotReached
pub mod SixBytes
pub mod FrameEdits
pub mod EditWords
pub mod EditsReplaced
pub mod AfterEdits
pub mod LookupAfter
