pub mod Whole
pub mod Moves
pub mod Through
pub mod Locked
