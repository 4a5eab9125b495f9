-- Strips of one ring: the ring, its crossings in order, the strips, what the public call says; and how the code walks.
pub mod Sorted
pub mod Rings
pub mod Strips
pub mod Said
pub mod Levels
pub mod Walk
pub mod Coming
pub mod Laws
