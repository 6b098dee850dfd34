-- What helpers are there for: what one member lacks and another has, that one keeps.
use Rattle.std.specs.Prelude.{◌≢◌, ℕ, ◌<◌, ◌≤◌, List}
use Rattle.cb_frames.specs.Fields.{CastFields}
use Rattle.cb_history.specs.Helping.{handed_on}
use Rattle.cb_history.specs.Answers.{delivered, window}
use Rattle.cb_history.specs.BufferLaws.{IsCastOf}
use Rattle.cb_schedules.specs.Schedule.{Setting, seat_at, GroupState}
use Rattle.cb_schedules.specs.Messages.{facts_at}
use Rattle.cb_schedules.specs.SentLaws.{HoldsNumber}

-- one of these casts carries message n of its sender
abbrev pub CarriesNumber : ℕ → List CastFields → Type 0
CarriesNumber n casts = (c : CastFields) × IsCastOf c casts × HoldsNumber c n

-- member j lacks message n of sender i
abbrev pub Lacks : Setting → GroupState → ℕ → ℕ → ℕ → Type 0
Lacks setting s j i n = delivered (seat_at setting j) (facts_at s j) i < n

-- What member k has delivered of another sender and some member lacks stands in a frame that k hands on.
abbrev pub NothingLackedIsForgotten : Setting → GroupState → Type 0
NothingLackedIsForgotten setting s =
    (i j k n : ℕ) → i < setting.group.size → j < setting.group.size → k < setting.group.size → k ≢ i
    → n ≤ delivered (seat_at setting k) (facts_at s k) i → Lacks setting s j i n
    → CarriesNumber n (handed_on (seat_at setting k) (facts_at s k) i)

-- What member i cast itself and some member lacks stands in a frame of its window.
abbrev pub NothingLackedIsFreed : Setting → GroupState → Type 0
NothingLackedIsFreed setting s =
    (i j n : ℕ) → i < setting.group.size → j < setting.group.size
    → n ≤ delivered (seat_at setting i) (facts_at s i) i → Lacks setting s j i n
    → CarriesNumber n (window (seat_at setting i) (facts_at s i))
