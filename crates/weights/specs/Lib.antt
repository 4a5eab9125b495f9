-- What the rows of the weights' code hold.
pub mod Lines
pub mod Ways
pub mod Sides
pub mod Bare
pub mod Rooms
