mod Windows
mod Multiples
