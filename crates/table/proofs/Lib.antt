-- The lemmas of this crate.
pub mod Parts
pub mod Steps
pub mod Changes
pub mod Walks
pub mod Surveying
