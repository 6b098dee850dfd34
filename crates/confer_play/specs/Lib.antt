-- What `confer play` does, and what holds of every conference.
pub mod Play
pub mod Playing
pub mod Rooms
pub mod ScriptText
pub mod Transcript
