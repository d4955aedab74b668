-- What each call that may change an arena leaves.
pub mod Calls
