pub mod Ram
pub mod Clock
pub mod Write
pub mod Read
pub mod Range
