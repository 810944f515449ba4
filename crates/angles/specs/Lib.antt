-- Whole-degree angles, as headers write them.
pub mod Angles
pub mod Asked
