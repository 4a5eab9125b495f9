-- The net before the weights, by the rows of the work room.
pub mod Sides
pub mod Edges
pub mod Parts
pub mod Nets
