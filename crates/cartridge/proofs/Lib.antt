pub mod Mappers
pub mod Powers
pub mod Nes2
pub mod Range
