-- What the suite writes.
pub mod Texts
