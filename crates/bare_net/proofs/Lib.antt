-- Laws that belong to no one function.
pub mod Written
pub mod Welding
pub mod Listing
pub mod Board
pub mod Nets
