-- The theorem over the public calls.
pub mod Lent
pub mod OneResult
