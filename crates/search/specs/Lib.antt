-- Searches that descend from the roots.
pub mod Search
pub mod Roots
pub mod Marks
pub mod Around
