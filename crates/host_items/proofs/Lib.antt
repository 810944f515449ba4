-- The laws of items as numbers.
pub mod NumberRanges
pub mod RangedNumbers
pub mod TestsAlike
pub mod ItemNumbers
