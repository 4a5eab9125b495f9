-- Laws that belong to no one function.
pub mod Sound
pub mod Gaps
pub mod Written
