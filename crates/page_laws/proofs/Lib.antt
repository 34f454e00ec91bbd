mod Cases
mod Banks
pub mod Numbers
pub mod Whole
pub mod Hangs
pub mod Moves
pub mod Locked
pub mod MapReads
pub mod MapWrites
pub mod Inside
