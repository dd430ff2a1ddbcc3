-- The lemmas of this crate.
pub mod Numerals
pub mod Cutting
