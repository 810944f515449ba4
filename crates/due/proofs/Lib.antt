-- The laws of what is due: how long it is, and that it is bytes.
pub mod DueWidths
pub mod DueBytes
