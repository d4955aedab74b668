-- Laws that belong to no one function.
pub mod Lists
pub mod Takes
pub mod Serves
pub mod Gives
pub mod Rewinds
