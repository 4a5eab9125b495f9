-- Laws that belong to no one function.
pub mod Orders
pub mod Distinct
pub mod Picking
pub mod Walks
pub mod Begins
pub mod Levels
pub mod Pairs
pub mod Laying
pub mod Crossing
pub mod Evenness
pub mod Bands
pub mod Bounds
