-- That answers which tell the same are the same.
pub mod Injective
