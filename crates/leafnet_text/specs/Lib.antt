-- What leafnet prints.
pub mod Lines
pub mod Rooms
pub mod Boards
pub mod Refining
pub mod Growing
pub mod Output
pub mod Held
pub mod Worked
pub mod Fronts
pub mod Ends
pub mod Cut
