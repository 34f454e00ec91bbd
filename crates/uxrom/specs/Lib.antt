pub mod Uxrom
