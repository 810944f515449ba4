-- What the C host's calls answer, where the library below has no definition of it.
pub mod Grid
pub mod Description
