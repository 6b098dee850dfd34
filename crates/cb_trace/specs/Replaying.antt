-- What is said of a history that was replayed.
use Rattle.std.specs.Prelude.{ℕ, List, Option, Some, None}
use Rattle.cb_history.specs.Group.{Identity}
use Rattle.cb_history.specs.Facts.{EntryFields}
use Rattle.cb_history.specs.Legal.{IsLegal}
use Rattle.cb_replay.specs.Replaying.{IsFirstWrong}

-- the answer says which entry is the first wrong one, or that the history is legal
abbrev pub SaysFirstWrong : Identity → List EntryFields → Option ℕ → Type 0
SaysFirstWrong seat entries (Some number) = IsFirstWrong seat entries number
SaysFirstWrong seat entries None = IsLegal seat entries
