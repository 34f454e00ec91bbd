pub mod Cnrom
