pub mod Growing
pub mod Repeats
pub mod Returning
pub mod Rows
pub mod Sums
pub mod Telling
