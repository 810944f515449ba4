-- What each field of the headers must hold.
pub mod Rules
pub mod Asked
