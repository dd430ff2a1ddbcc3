-- The lemmas of this crate.
pub mod Rows
pub mod Costs
pub mod Checks
