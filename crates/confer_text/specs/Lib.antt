-- What the subcommands share.
pub mod Streams
pub mod Texts
