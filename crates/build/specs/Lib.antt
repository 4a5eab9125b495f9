-- Build: what a board is, its roots, what the call says and what it leaves in the table.
pub mod Grid
pub mod Board
pub mod Says
pub mod Steps
pub mod Laws
