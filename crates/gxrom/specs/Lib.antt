pub mod Gxrom
