-- The board record: its fields and the board, and what reading and writing it says and leaves.
pub mod Board
pub mod Rows
pub mod Lent
pub mod Reading
pub mod Walks
pub mod Writing
pub mod Puts
pub mod Laws
