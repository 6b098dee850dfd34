mod HandleValues
mod HeldDrop
pub mod Placing
pub mod Showing
mod LongBursts
pub mod Parts
mod Examples
