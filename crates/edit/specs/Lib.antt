-- What an edit judges, and what it leaves.
pub mod Edit
pub mod Sequence
pub mod Replaced
