pub mod Names
pub mod Lengths
pub mod Lists
pub mod Seen
pub mod Holding
pub mod Readings
pub mod Rows
pub mod Payloads
pub mod Closing
pub mod Decoding
pub mod Views
mod Worked
