-- What is exported, against what is proved of it.
pub mod SameClaims
