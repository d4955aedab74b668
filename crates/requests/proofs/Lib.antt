-- Laws that belong to no one function.
pub mod Layouts
pub mod Plans
