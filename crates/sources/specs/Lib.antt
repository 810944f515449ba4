-- Heights, from either source.
pub mod Heights
