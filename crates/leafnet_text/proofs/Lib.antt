-- Laws that the proofs of the functions cite.
pub mod Refusing
pub mod Numbered
pub mod Bits
pub mod Refining
pub mod Fronts
pub mod Steps
pub mod Narrowing
pub mod Reading
pub mod Tabled
pub mod Netted
pub mod Worked
pub mod Unread
