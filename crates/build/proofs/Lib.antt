-- Laws that belong to no one function.
pub mod Cutting
pub mod Listing
pub mod Judging
pub mod Placing
pub mod Tallying
pub mod Boards
pub mod Fitting
pub mod Answering
pub mod Tiling
pub mod Formed
pub mod Wellformed
pub mod Tiled
