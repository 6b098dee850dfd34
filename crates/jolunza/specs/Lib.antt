pub mod Codes
pub mod Senders
pub mod Calls
