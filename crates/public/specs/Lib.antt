-- The public calls and what their contracts promise.
pub mod Public
