-- The laws of intake.
pub mod Turns
pub mod FrameExactly
pub mod CellExactly
pub mod IntakeExactly
pub mod NeverMore
pub mod OneByte
pub mod BothYears
