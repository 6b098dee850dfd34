pub mod Tracking
