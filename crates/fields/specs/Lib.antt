-- The fields of the headers, and the free bytes between them that are written.
pub mod Table
pub mod Free
