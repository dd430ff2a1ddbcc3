-- The definitions that contracts cite, and the lemmas by which the impls show their laws.
pub mod Rings
pub mod Sums
pub mod Remainders
pub mod Polynomials
pub mod Shifts
pub mod Field
pub mod Tested
pub mod Modular
