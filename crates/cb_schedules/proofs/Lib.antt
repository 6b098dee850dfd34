mod Rows
mod RoundRows
mod ForgettingRows
mod HelpRows
mod HelpRoundRows
mod RoundsAmongRows
mod SilentRows
pub mod RestartRows
pub mod GoingOn
pub mod Lists
pub mod Members
pub mod Growing
pub mod Stamping
pub mod Handing
pub mod Sending
pub mod Calling
pub mod Answering
pub mod Courses
pub mod Moments
pub mod Closing
pub mod FromBytes
pub mod Knowing
pub mod Headlines
pub mod Lacking
pub mod StepByStep
pub mod Later
pub mod Happening
pub mod Covering
pub mod Hearing
pub mod Waves
pub mod Asking
pub mod Spreading
pub mod HelpWaves
pub mod Helped
pub mod Depending
pub mod Repairing
pub mod Quieting
pub mod Ending
pub mod Holding
pub mod RoundLaws
pub mod Once
pub mod HelpSteps
pub mod Outliving
pub mod HelpRoundLaws
pub mod RoundsAmong
pub mod RoundsAmongLaws
pub mod Room
pub mod Within
pub mod Entered
pub mod Journaled
pub mod RestartLaws
pub mod CatchingUp
pub mod CoreRestarts
pub mod Forgetting
pub mod Cores
pub mod CoreRounds
pub mod CoreHelpRounds
pub mod EndLists
pub mod SuccessionLaws
pub mod SuccessionSteps
pub mod Successions
pub mod SuccessionRows
pub mod EndsHaveRoom
pub mod SuccessionRounds
pub mod SuccessionRestarts
pub mod LeftOut
