-- The power of a net's cells: the rules' formulas, and what the call says.
pub mod Formulas
pub mod Powers
pub mod Laws
