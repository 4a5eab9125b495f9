-- Polygons of one strip, nodes that do not hang, borders along sides, the rows of a made net, boards that were read, and the boundary cases.
pub mod Grids
pub mod Nodes
pub mod Fit
pub mod Joined
pub mod Offsets
pub mod Hanging
pub mod Built
pub mod Borders
pub mod Samples
pub mod Made
pub mod MadeNets
pub mod Bands
pub mod Eight
pub mod Records
pub mod Orders
pub mod Moves
