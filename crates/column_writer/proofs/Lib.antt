-- The laws of what every writer judges, and of the column writer.
pub mod HeightParts
pub mod PostsExactly
pub mod NumberExactly
pub mod ColumnExactly
pub mod OutputPut
