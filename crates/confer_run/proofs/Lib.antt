pub mod Seeing
pub mod Conferring
