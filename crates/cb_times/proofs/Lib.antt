pub mod Deciding
mod Rows
pub mod Text
pub mod Entries
