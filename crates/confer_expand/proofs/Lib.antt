-- Lemmas on `confer expand`.
pub mod Reading
pub mod Accepting
pub mod Showing
pub mod Cutting
pub mod Saying
pub mod Running
