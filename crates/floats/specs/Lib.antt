-- Fractions in binary64, as the formulas of the rules use them.
pub mod Fractions
