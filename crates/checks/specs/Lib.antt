-- The two checks of a net against a table.
pub mod Nodes
pub mod Sides
pub mod Checks
pub mod Scopes
pub mod Walks
pub mod Entries
pub mod Rooms
pub mod Laws
