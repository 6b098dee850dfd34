mod Rows
pub mod Worth
pub mod Fronts
pub mod Spelled
pub mod Turns
