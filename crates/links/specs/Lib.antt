-- Links: when their values are in range, what they are of a net, and what holds of them.
pub mod Judged
pub mod Made
pub mod Laws
pub mod Cases
pub mod Rows
pub mod Lists
pub mod Ends
pub mod Nets
pub mod Count
pub mod Windows
pub mod Listed
