-- Laws that belong to no one function.
pub mod One
pub mod Tells
