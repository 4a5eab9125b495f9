pub mod Rows
pub mod Judging
pub mod Bare
pub mod Accepted
