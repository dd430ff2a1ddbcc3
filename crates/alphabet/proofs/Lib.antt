-- The lemmas of this crate.
pub mod Sums
pub mod Symbols
pub mod Additions
