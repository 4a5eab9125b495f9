-- Laws that belong to no one function.
pub mod Faults
pub mod Walks
pub mod Lasts
pub mod Between
pub mod Chains
pub mod Nearest
pub mod Spots
pub mod Pairs
pub mod Along
pub mod Indexed
pub mod Rooms
pub mod One
pub mod ByLayer
pub mod Examples
