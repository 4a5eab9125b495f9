-- The lent rows of a net, when they are sound, and what a sound net says of its rows.
pub mod Nodes
pub mod Nets
pub mod Facts
pub mod Polygons
