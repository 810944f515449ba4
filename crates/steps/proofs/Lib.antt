-- The laws of steps.
pub mod Pieces
pub mod Kept
pub mod StepByStep
pub mod StepsWhole
pub mod StoppedEarly
pub mod TurnsLeft
