pub mod Known
pub mod Rows
pub mod Minima
pub mod Ranges
pub mod Sent
pub mod Helper
pub mod Relays
