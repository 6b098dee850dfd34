pub mod Cut
pub mod Following
pub mod Putting
pub mod Going
pub mod Reaching
pub mod OneReading
pub mod OneBadLine
pub mod Ordering
pub mod OneOrder
pub mod Answered
pub mod JointRuns
pub mod Frames
pub mod Searching
pub mod OneStep
pub mod Asked
pub mod Audited
pub mod Before
mod Rows
mod JointRows
