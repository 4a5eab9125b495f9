-- Laws that belong to no one function.
pub mod Meeting
pub mod Numbers
pub mod Least
pub mod Slots
pub mod Trees
pub mod Rooted
pub mod Found
pub mod Boxes
pub mod Marking
