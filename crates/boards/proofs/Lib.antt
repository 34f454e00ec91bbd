pub mod NoBoard
pub mod Screens
