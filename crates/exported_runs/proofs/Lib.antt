mod Typed
pub mod Runs
pub mod States
pub mod Demand3
pub mod Demand3Met
pub mod Pages
