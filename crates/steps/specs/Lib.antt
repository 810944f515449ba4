-- What each step of intake answers of a piece, the state after it, and the turns up to a final answer.
pub mod Steps
pub mod Turns
