pub mod Steps
pub mod Outcomes
pub mod Taking
pub mod World
pub mod FaultText
