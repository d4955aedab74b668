-- The definitions that the contracts of this crate cite: every call of document 01 as a function of shape, header and bytes.
pub mod Take
pub mod Look
pub mod Give
pub mod Rewind
