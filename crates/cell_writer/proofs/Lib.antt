-- The laws of the cell writer.
pub mod ItemExactly
pub mod CellExactly
pub mod SoFar
pub mod GridDue
pub mod WrittenCell
pub mod Restores
pub mod ByteReturn
