-- The definitions that contracts cite, and the lemmas by which the impls show their laws.
pub mod Tables
pub mod Makers
pub mod Surveys
pub mod Rows
pub mod Numbers
pub mod Laws
