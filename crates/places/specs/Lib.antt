-- The leaves of a net's polygons as entries of a row, and the places on them as nodes.
pub mod Leaves
pub mod Places
