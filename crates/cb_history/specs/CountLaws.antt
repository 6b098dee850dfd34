-- Counts and numbers of messages stay in the range of numbers, however long a history is.
use Rattle.std.specs.Prelude.{◌≡◌, ℕ, ◌+◌, ◌<◌, ◌≤◌, true, nat_lt, List, length}
use Rattle.cb_frames.specs.declared.frame.TheConstants.{LAST_NUMBER, MOST_MESSAGES}
use Rattle.cb_frames.specs.Fields.{Load, payloads_of, CastFields, last_number}
use Rattle.cb_history.specs.Group.{Identity}
use Rattle.cb_history.specs.Facts.{Fact, casts_in, is_there}
use Rattle.cb_history.specs.Known.{known, stable}
use Rattle.cb_history.specs.Answers.{delivered, is_too_many}
use Rattle.cb_history.specs.Legal.{longest_history}
use Rattle.cb_history.specs.LegalFacts.{IsOwnCast, AreFactsOf}

-- an own cast that was not refused has a number that messages can have
abbrev pub OwnCastsHaveNumbers : Type 0
OwnCastsHaveNumbers = (seat : Identity) (facts : List Fact) (c : CastFields) → IsOwnCast seat facts c → last_number c ≤ LAST_NUMBER

-- and so has each message that is there
abbrev pub MessagesHaveNumbers : Type 0
MessagesHaveNumbers = (seat : Identity) (facts : List Fact) (i n : ℕ) → AreFactsOf seat facts → is_there (casts_in facts) i n ≡ true → n ≤ LAST_NUMBER

-- so no more of a member's messages are delivered than it has numbers for
abbrev pub CountsAreNumbers : Type 0
CountsAreNumbers = (seat : Identity) (facts : List Fact) (k : ℕ) → AreFactsOf seat facts → delivered seat facts k ≤ LAST_NUMBER

-- and none is known of beyond them
abbrev pub KnownAreNumbers : Type 0
KnownAreNumbers = (seat : Identity) (facts : List Fact) (i : ℕ) → AreFactsOf seat facts → known facts i ≤ LAST_NUMBER

-- a member that has not so many numbers left finds that its window has no room
abbrev pub NoNumberIsFull : Type 0
NoNumberIsFull = (seat : Identity) (facts : List Fact) (n : ℕ) → LAST_NUMBER < delivered seat facts seat.me + n → is_too_many seat facts n ≡ true

-- A history within its limit has numbers left for one more cast of as many messages as a frame can carry, so its window has room
-- for it by what is stable alone.
abbrev pub HistoriesLeaveNumbers : Type 0
HistoriesLeaveNumbers =
    (seat : Identity) (facts : List Fact) (load : Load) → AreFactsOf seat facts → length facts ≤ longest_history → length (payloads_of load) ≤ MOST_MESSAGES
    → is_too_many seat facts (length (payloads_of load)) ≡ nat_lt (stable seat facts + seat.group.window) (delivered seat facts seat.me + length (payloads_of load))
