-- One member of a group in a process of its own.
pub mod Statuses
pub mod Shown
pub mod Meeting
pub mod Ending
pub mod Saying
pub mod Reading
