-- The lemmas of this crate.
pub mod Openings
pub mod History
pub mod Uniqueness
pub mod Working
