-- What the program hands out.
pub mod Found
pub mod Printed
