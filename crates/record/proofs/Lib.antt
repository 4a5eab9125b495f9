-- Laws of the walk, of bytes that are put in place, and what was written is read again.
pub mod Storing
pub mod Sheets
pub mod Boards
pub mod Stores
pub mod Turns
pub mod Records
pub mod Rounds
pub mod Back
pub mod Copying
pub mod Lists
