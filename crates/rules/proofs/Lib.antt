pub mod Picks
pub mod Lists
pub mod Bools
pub mod Rows
pub mod Flat
pub mod Kept
