-- Laws that belong to no one function.
pub mod Within
pub mod Board
pub mod Places
pub mod Firsts
pub mod Numbers
