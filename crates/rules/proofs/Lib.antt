-- What is due in a field is what its rule says, a field that keeps its rule holds bytes, and the numbers of a laid grid have four digits.
pub mod DueHolds
pub mod KeptBytes
pub mod GridNumbers
