-- The laws of the field table, and of matches on its rows.
mod LastRow
pub mod ItemRows
