-- What a description is written as: the texts of its fields, and the free bytes.
pub mod Written
pub mod Asked
