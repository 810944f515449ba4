-- What every answer says in the scope's numbers.
pub mod Told
