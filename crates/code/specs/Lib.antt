-- The definitions that contracts cite.
pub mod Cells
pub mod Codes
pub mod Refusals
pub mod Calls
