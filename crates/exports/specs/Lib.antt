pub mod Numbers
pub mod Bytes
pub mod Calls
pub mod RoundTrip
pub mod Steps
pub mod AfterRefusal
