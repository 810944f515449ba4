-- Where a post of any bytes is found, and what it reads as.
pub mod Reach
pub mod Lookup
