pub mod CoreReplays
pub mod Replays
pub mod Returns
