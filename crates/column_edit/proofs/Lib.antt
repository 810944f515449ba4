-- The laws of a stored post: what it leaves of the sum and of the bytes, and that it is one word set among the column's.
pub mod SumStored
pub mod StoredBytes
pub mod StoredWords
