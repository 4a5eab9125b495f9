-- Boxes and contact, and the cell that the code passes by value.
pub mod Boxes
pub mod Cells
pub mod Ticks
pub mod Contact
pub mod Laws
