-- What statuses say, and which of them is the last own one.
use Rattle.std.specs.Prelude.{◌≡◌, ℕ, ◌<◌, ◌≤◌, ◌↔◌, false, List, [], ◌∷◌, ◌++◌, Option, Some, None}
use Rattle.cb_frames.specs.Fields.{StatusFields}
use Rattle.cb_history.specs.Group.{Identity}
use Rattle.cb_history.specs.Facts.{Fact, OwnCast, CastReceived, StatusReceived, OwnStatus}
use Rattle.cb_history.specs.View.{time_of}
use Rattle.cb_history.specs.Known.{value_in}
use Rattle.cb_history.specs.Answers.{delivered, status_of, last_status, is_new_status}

-- an own status is the last one from then on
abbrev pub status_after : Option StatusFields → Fact → Option StatusFields
status_after last (OwnStatus s) = Some s
status_after last (OwnCast c) = last
status_after last (CastReceived c) = last
status_after last (StatusReceived s) = last

-- every other fact leaves the last own status
abbrev pub LastStatusWithOneMore : Type 0
LastStatusWithOneMore = (facts : List Fact) (f : Fact) (last : Option StatusFields) → last_status (facts ++ f ∷ []) last ≡ status_after (last_status facts last) f

-- a status says of each member how many of its messages are delivered, and nothing of who is none
abbrev pub StatusSaysTheTime : Type 0
StatusSaysTheTime = (seat : Identity) (facts : List Fact) (k : ℕ)
    → (k < seat.group.size → value_in (status_of seat facts).values k ≡ delivered seat facts k) × (seat.group.size ≤ k → value_in (status_of seat facts).values k ≡ 0)

-- after a status the next one is new exactly where the time is another one
abbrev pub NewStatusIsANewTime : Type 0
NewStatusIsANewTime = (seat : Identity) (before facts : List Fact) → last_status facts None ≡ Some (status_of seat before)
    → (is_new_status seat facts ≡ false) ↔ (time_of seat.group.size before ≡ time_of seat.group.size facts)
