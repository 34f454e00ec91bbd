pub mod Holds
pub mod Runs
pub mod Demand3
