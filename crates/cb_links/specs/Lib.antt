pub mod Counts
pub mod Offers
pub mod Ends
pub mod FaultText
pub mod Streams
pub mod Failing
