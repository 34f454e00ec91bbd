pub mod Mappers
pub mod Refusals
pub mod Header
pub mod Nes2
pub mod Load
