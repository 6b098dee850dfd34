pub mod Digits
pub mod Cut
pub mod Found
pub mod Lists
pub mod Putting
pub mod Lines
pub mod OneLine
mod Rows
