pub mod Faults
pub mod Resuming
pub mod Lines
