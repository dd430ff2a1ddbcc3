-- The definitions that contracts cite.
pub mod Grids
pub mod Weights
pub mod Agreement
pub mod Parts
pub mod Readings
