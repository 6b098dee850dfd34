pub mod Text
pub mod Bounds
pub mod Finding
