-- The laws of heights that are given.
pub mod HeightLaws
