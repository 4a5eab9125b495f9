-- Laws that belong to no one function.
pub mod Borders
pub mod Contact
pub mod Offsets
pub mod OneContact
