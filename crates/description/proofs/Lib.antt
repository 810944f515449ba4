-- The laws and theorems of the description.
pub mod SameItems
pub mod ItemOrder
pub mod RangedItems
pub mod NamedItem
pub mod LaidGrids
pub mod ReadRanged
