-- The line that tells an answer, and what a writer holds of it.
pub mod Line
pub mod Written
