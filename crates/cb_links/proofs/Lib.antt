pub mod Rising
pub mod Sending
pub mod Goings
pub mod Outcomes
