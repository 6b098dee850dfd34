pub mod Greeting
pub mod Hearing
pub mod Offering
