-- What the words of the command line order, and what a run answers.
pub mod Commands
pub mod Orders
pub mod Statuses
pub mod Runs
