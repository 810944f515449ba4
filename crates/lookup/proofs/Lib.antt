-- The laws of a reached post and of lookup.
pub mod PostReached
pub mod ReachedExactly
pub mod PostSaid
pub mod LookupLaws
pub mod BothYears
