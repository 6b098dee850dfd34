-- What `confer expand` does.
pub mod Refusals
pub mod Answers
pub mod Lines
pub mod Steps
pub mod Progress
pub mod Texts
pub mod Runs
