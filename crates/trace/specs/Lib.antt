-- The definitions that the contracts of this crate cite.
pub mod Fill
pub mod Numeral
pub mod Refused
