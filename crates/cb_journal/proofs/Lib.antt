pub mod Parts
pub mod Heads
pub mod Texts
pub mod Readings
pub mod Bounds
pub mod Beginnings
mod Rows
pub mod Keeping
pub mod Refusals
