pub mod Events
pub mod ComingBack
