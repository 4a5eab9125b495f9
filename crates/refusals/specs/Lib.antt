-- What every contract cites: what a call says, and the ranges of the rules.
pub mod Said
pub mod Limits
pub mod Laws
