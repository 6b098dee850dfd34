pub mod Parts
pub mod Putting
