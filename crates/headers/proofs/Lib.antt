-- The laws and theorems of headers.
pub mod TableRows
pub mod BrokenRows
pub mod KeptRows
pub mod Exactly
pub mod FirstFour
pub mod TwoParts
pub mod BrokenPlace
pub mod FreeBytes
pub mod SameHeaders
pub mod Voids
