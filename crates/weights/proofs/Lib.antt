-- Laws that belong to no one function.
pub mod Entries
pub mod Order
pub mod Neighbours
pub mod Walk
pub mod Steps
pub mod Hanging
pub mod Pairs
pub mod Faces
pub mod Facing
pub mod Middles
pub mod Gaps
