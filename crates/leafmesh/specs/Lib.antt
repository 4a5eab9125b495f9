-- What an exported call answers.
pub mod Outcome
pub mod Reads
pub mod Nets
pub mod Laws
