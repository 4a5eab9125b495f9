-- Laws that belong to no one function.
pub mod Pairs
pub mod Rowing
pub mod Undoing
pub mod Going
pub mod Turns
pub mod Asking
pub mod Passing
pub mod Watching
pub mod Ending
pub mod One
pub mod Later
pub mod LaterBoard
pub mod Held
pub mod Parts
