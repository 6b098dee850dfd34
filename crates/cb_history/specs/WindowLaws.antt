-- How far ahead casts can be.
use Rattle.std.specs.Prelude.{◌≡◌, ℕ, ◌+◌, ◌≤◌, true, List}
use Rattle.cb_history.specs.Group.{Identity}
use Rattle.cb_history.specs.Facts.{Fact, casts_in, is_there}
use Rattle.cb_history.specs.Known.{stable}
use Rattle.cb_history.specs.Answers.{delivered}
use Rattle.cb_history.specs.LegalFacts.{AreFactsOf}

-- a cast that is there is at most a window above what is delivered of its sender
abbrev pub CastsAreNear : Type 0
CastsAreNear = (seat : Identity) (facts : List Fact) (i n : ℕ) → AreFactsOf seat facts → is_there (casts_in facts) i n ≡ true → n ≤ delivered seat facts i + seat.group.window

-- a member made at most a window of casts above what is stable
abbrev pub OwnCastsAreNearStable : Type 0
OwnCastsAreNearStable = (seat : Identity) (facts : List Fact) → AreFactsOf seat facts → delivered seat facts seat.me ≤ stable seat facts + seat.group.window
