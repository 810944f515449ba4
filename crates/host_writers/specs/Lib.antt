-- What the writers make of items as numbers and heights in bytes.
pub mod Cell
pub mod Column
