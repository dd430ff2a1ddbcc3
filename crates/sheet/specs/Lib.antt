-- The definitions that the contracts of sheets cite.
pub mod Faults
pub mod Marks
pub mod Runs
pub mod Sheets
