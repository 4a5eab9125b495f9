-- Laws that belong to no one function.
pub mod Verdict
pub mod Never
pub mod One
