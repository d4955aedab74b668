-- Statements over whole days of calls.
pub mod Runs
