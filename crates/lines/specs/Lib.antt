-- The definitions that the contracts of job lines cite.
pub mod Fields
pub mod Calls
pub mod Names
