pub mod Listed
pub mod Unique
pub mod SameRegisters
pub mod Refusals
