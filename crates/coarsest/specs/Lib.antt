-- Balance and conform by their passes, and the coarsest splitting by names.
pub mod Passes
pub mod Sweep
pub mod Names
pub mod InTurn
pub mod Laws
