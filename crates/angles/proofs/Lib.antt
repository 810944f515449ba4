-- The laws of angles.
pub mod Origins
pub mod AngleTexts
