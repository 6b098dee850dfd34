pub mod Receipts
pub mod Held
pub mod Calls
pub mod Claims
pub mod Closing
pub mod FaultText
pub mod Seen
