-- The laws of packed answers.
pub mod PostBits
pub mod TakenApart
