-- The definitions that the contracts of jobs cite.
pub mod Answers
pub mod Transcripts
pub mod Jobs
