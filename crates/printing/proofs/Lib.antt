-- The laws of printed numbers and lines.
pub mod Widths
pub mod LinePastes
pub mod Decimals
