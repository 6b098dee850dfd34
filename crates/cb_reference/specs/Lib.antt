pub mod Facts
pub mod Casts
pub mod Reading
pub mod Messages
pub mod Past
pub mod Requests
pub mod Arrivals
pub mod Casting
