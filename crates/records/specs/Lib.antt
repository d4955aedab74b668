-- The definitions that the contracts of this crate cite.
pub mod Answer
pub mod Setup
pub mod Head
pub mod Rule
pub mod Change
pub mod Part
