pub mod Axrom
