-- Rule years, and what a call does under the one that is named.
pub mod Years
