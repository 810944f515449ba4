-- How a field that breaks its rule is refused.
pub mod Ever
pub mod Place
pub mod Fault
pub mod Asked
