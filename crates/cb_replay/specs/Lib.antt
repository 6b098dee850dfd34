pub mod Loads
pub mod Replaying
pub mod Resuming
pub mod CoreReplaying
pub mod Returning
pub mod FaultText
