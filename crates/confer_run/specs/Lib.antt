pub mod Settings
pub mod Run
pub mod Talking
