pub mod Bursts
pub mod Few
pub mod Lists
pub mod Starting
pub mod Stepping
pub mod Taken
