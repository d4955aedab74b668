-- The definitions that the contracts of this crate cite.
pub mod Segs
pub mod Place
pub mod Check
pub mod Split
pub mod Marks
pub mod Sound
pub mod Link
pub mod Nodes
