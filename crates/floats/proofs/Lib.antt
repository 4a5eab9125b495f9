-- Laws that belong to no one function.
pub mod Signs
pub mod Ranges
pub mod Sizes
pub mod Bounds
