-- The definitions that contracts cite, and the lemmas by which the impls show their laws.
pub mod Limits
pub mod LimitsLemmas
