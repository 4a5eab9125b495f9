-- Balance and conform on a lent table.
pub mod Rows
pub mod Undo
pub mod Makes
pub mod Watch
pub mod Even
pub mod Later
pub mod LaterBoard
pub mod Laws
