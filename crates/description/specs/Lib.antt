-- What headers say, its thirteen items and their ranges, and what it makes due.
pub mod Described
pub mod ItemTable
pub mod Items
pub mod Facts
