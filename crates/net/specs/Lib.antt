pub mod Net
pub mod First
pub mod Flat
pub mod Hang
pub mod Boards
pub mod Laws
