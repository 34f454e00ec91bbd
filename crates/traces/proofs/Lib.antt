pub mod Fits
pub mod Laid
pub mod Lengths
pub mod Turns
pub mod Whole
pub mod Unique
pub mod Readings
pub mod Counts
