-- The laws of years that are named.
pub mod YearLaws
