-- The laws that the proofs cite, and what they give together: words and heights, there and back.
pub mod PostWords
pub mod Voids
pub mod Pairs
pub mod RoundTrip
pub mod Readings
pub mod PartLaws
pub mod SpanLaws
