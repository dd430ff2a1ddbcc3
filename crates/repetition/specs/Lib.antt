-- The definitions that contracts cite, and the lemmas by which the impls show their laws.
pub mod Repeats
pub mod Votes
pub mod RepeatsLemmas
