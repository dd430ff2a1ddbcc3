-- The lemmas of this crate.
pub mod Scanning
pub mod Reading
pub mod Encoding
