-- Laws that belong to no one function.
pub mod Signs
pub mod Sums
pub mod Tops
