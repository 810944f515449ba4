-- An answer as one number.
pub mod Packed
pub mod Apart
