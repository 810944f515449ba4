-- What intake answers of any bytes.
pub mod Intake
pub mod Asked
