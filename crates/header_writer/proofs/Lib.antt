-- The laws of composed headers, and the theorems that they are good and say what they were written from.
pub mod TextWidths
pub mod TableTurns
pub mod FieldsApart
pub mod WrittenLength
pub mod BasisBack
pub mod WrittenHolds
pub mod RoundTrip
pub mod WrittenGood
pub mod WrittenBytes
pub mod SomeHeaders
pub mod FieldTold
