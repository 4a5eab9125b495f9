-- What a command line of leafnet asks for, and how its run ends.
pub mod Asked
pub mod Texts
pub mod Ended
