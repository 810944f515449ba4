-- What is claimed of the library as a whole.
pub mod Marked
pub mod Sea
