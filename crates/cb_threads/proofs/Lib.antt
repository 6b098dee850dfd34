pub mod Telling
pub mod Order
pub mod Planning
pub mod Sending
pub mod Bundles
pub mod Helps
pub mod Posting
