pub mod Nrom
