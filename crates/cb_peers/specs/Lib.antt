pub mod Hellos
pub mod MakeFaults
pub mod Placing
pub mod Pauses
