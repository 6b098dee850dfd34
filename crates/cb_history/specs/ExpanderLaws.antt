-- The times that the expander gives, single by single, against the times over all facts.
use Rattle.std.specs.Prelude.{◌≡◌, ◌≢◌, ℕ, ◌+◌, ◌<◌, ◌≤◌, List, ◌++◌, length, replicate}
use Rattle.std.specs.List.{AllByRecursion}
use Rattle.cb_frames.specs.Fields.{CastFields, first_number, last_number}
use Rattle.cb_diffs.specs.Expansion.{expanded_field, expanded_time, IsNext, Expands}
use Rattle.cb_diffs.specs.Expansion as expander
use Rattle.cb_history.specs.Group.{Identity}
use Rattle.cb_history.specs.Facts.{Fact, casts_in}
use Rattle.cb_history.specs.Known.{expanded_count}
use Rattle.cb_history.specs.LegalFacts.{AreFactsOf}
use Rattle.cb_history.specs.NameLaws.{NumberedFrom}
use Rattle.cb_history.specs.Singles.{singles_in}
use Rattle.cb_history.specs.BufferLaws.{IsCastOf}

-- what the expander keeps of sender i is the time of the sender's message n over all casts that are there
pub record KeepsTimeOf (seat : Identity) (facts : List Fact) (i n : ℕ) (kept : List (List ℕ)) : Type 0 where
  pub senders : length kept ≡ seat.group.size
  pub time : expander.time_of kept i ≡ expanded_time seat.group.size (casts_in facts) i n

-- a new expander keeps the time of no message of any sender
abbrev pub NewExpanderKeepsNothing : Type 0
NewExpanderKeepsNothing = (seat : Identity) (facts : List Fact) (i : ℕ) → AreFactsOf seat facts → i < seat.group.size → KeepsTimeOf seat facts i 0 (replicate seat.group.size (replicate seat.group.size 0))

-- handed the single behind that message it does not refuse it
abbrev pub CastBehindIsNext : Type 0
CastBehindIsNext = (seat : Identity) (facts : List Fact) (c : CastFields) (n : ℕ) (kept : List (List ℕ)) → AreFactsOf seat facts → IsCastOf c (singles_in facts) → first_number c ≡ n + 1
    → KeepsTimeOf seat facts c.sender n kept → IsNext kept c

-- What it then gives is the time of its message over all facts, whatever else is among them, and that is the time that it keeps.
abbrev pub ExpanderTellsTheTime : Type 0
ExpanderTellsTheTime = (seat : Identity) (facts : List Fact) (c : CastFields) (n : ℕ) (time : List ℕ) (old new : List (List ℕ)) → AreFactsOf seat facts → IsCastOf c (singles_in facts)
    → KeepsTimeOf seat facts c.sender n old → Expands old c time new
    → (first_number c ≡ n + 1) × (time ≡ expanded_time seat.group.size (casts_in facts) c.sender (first_number c)) × KeepsTimeOf seat facts c.sender (last_number c) new

-- of the other senders it keeps what it kept
abbrev pub OtherTimesAreKept : Type 0
OtherTimesAreKept = (seat : Identity) (facts : List Fact) (c : CastFields) (i n : ℕ) (time : List ℕ) (old new : List (List ℕ)) → c.sender ≢ i
    → KeepsTimeOf seat facts i n old → Expands old c time new → KeepsTimeOf seat facts i n new

-- and more facts change no time that was expanded
abbrev pub KeptTimesStay : Type 0
KeptTimesStay = (seat : Identity) (facts more : List Fact) (i n : ℕ) (kept : List (List ℕ)) → AreFactsOf seat (facts ++ more) → n ≤ expanded_count (casts_in facts) i
    → KeepsTimeOf seat facts i n kept → KeepsTimeOf seat (facts ++ more) i n kept

-- The singles of a sender from the first on, in the order of their numbers, add up to the same times as all casts that are there.
abbrev pub OrderChangesNoTime : Type 0
OrderChangesNoTime = (seat : Identity) (facts : List Fact) (taken : List CastFields) (i n k : ℕ) → AreFactsOf seat facts → NumberedFrom i 1 taken → AllByRecursion (λ c. IsCastOf c (singles_in facts)) taken
    → n ≤ length taken → expanded_field taken i n k ≡ expanded_field (casts_in facts) i n k
