-- What headers follow, and how they are judged.
pub mod Basis
pub mod Judged
pub mod Asked
