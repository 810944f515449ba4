-- That 21, 22 and 23 are told right, and the place too.
pub mod FaultTold
pub mod SomeEdges
pub mod SomeNumbers
pub mod Listed
pub mod Somewhere
pub mod Passing
