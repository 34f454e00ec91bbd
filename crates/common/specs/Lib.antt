pub mod Common
pub mod Answers
