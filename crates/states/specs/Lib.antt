pub mod Words
pub mod Kept
pub mod Steps
pub mod Rows
