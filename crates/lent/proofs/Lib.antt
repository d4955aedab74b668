-- The walk of a thin function over a lent header, stated once, for code of the form `thin`. The three functions are proved without it.
pub mod Locals
pub mod Values
pub mod Form
pub mod Walk
pub mod Buffer
pub mod Thin
