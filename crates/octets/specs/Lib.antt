-- What lent bytes say: the words that every other crate's definitions are made of.
pub mod Choice
pub mod Tests
pub mod Ranges
pub mod Scan
pub mod Places
pub mod Numbers
pub mod Sums
pub mod Twos
pub mod Extremes
pub mod Digits
pub mod Texts
pub mod Pastes
pub mod Parts
pub mod Asked
