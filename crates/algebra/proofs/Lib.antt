-- The mathematics of products.
pub mod Grids
pub mod Averages
pub mod Reach
pub mod Products
pub mod Messages
pub mod Encoded
pub mod Agreement
pub mod Places
pub mod Written
pub mod Sizes
pub mod Lines
pub mod Tries
pub mod Wholes
pub mod Combining
