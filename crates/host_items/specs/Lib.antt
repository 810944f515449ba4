-- What the items of a description are as numbers.
pub mod Items
pub mod Asked
