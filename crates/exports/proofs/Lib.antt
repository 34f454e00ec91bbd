mod Put
pub mod RoundTrip
pub mod WriteAnswers
pub mod AsBoards
pub mod Unique
pub mod AfterRefusal
mod Keeps
