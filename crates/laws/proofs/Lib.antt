mod Opened
mod Cases
mod Accepting
mod Tables
mod Mmc1Ranges
mod Mmc3Ranges
mod OneImage
mod Mmc1Moves
mod Mmc1Answers
mod Positions
mod Arming
mod Deeds
pub mod PLines
pub mod Numbers
pub mod FurtherRows
pub mod Nes2Rows
pub mod LineRows
pub mod ProtectionRows
pub mod Clocks
pub mod PublicClocks
pub mod ThreeWrites
pub mod LowLine
pub mod Unique
pub mod Ranges
pub mod Loadable
pub mod Within
pub mod Useless
pub mod Choices
pub mod Loads
pub mod FiveBits
pub mod Idle
pub mod Line
pub mod Histories
pub mod SettlesMmc3
pub mod SettlesMmc1
pub mod Demand3
pub mod SettlesMmc1Met
pub mod SettlesMmc3Met
pub mod LineMet
pub mod Protection
pub mod ProtectionMet
pub mod ControlBit4
pub mod AsBefore
pub mod Mark
pub mod OutOfRange
pub mod AfterRefusal
pub mod Trailing
