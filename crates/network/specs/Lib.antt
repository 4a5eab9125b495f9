pub mod Says
pub mod Laws
