-- The facts of a legal history, one after another.
use Rattle.std.specs.Prelude.{◌≡◌, ℕ, ◌≤◌, ◌<◌, true, false, List, [], ◌∷◌, ◌++◌, length}
use Rattle.cb_frames.specs.declared.frame.TheConstants.{LAST_NUMBER}
use Rattle.cb_frames.specs.Fields.{payloads_of, CastFields, first_number, last_number, StatusFields, FrameFields, CastFrame, StatusFrame, RequestFrame, HelpFrame}
use Rattle.cb_history.specs.Load.{FitsFrame}
use Rattle.cb_history.specs.Group.{Identity, AreParameters}
use Rattle.cb_history.specs.Facts.{Fact, OwnCast, CastReceived, StatusReceived, OwnStatus}
use Rattle.cb_history.specs.Known.{value_in}
use Rattle.cb_history.specs.Answers.{is_too_many, next_cast, group_of, are_members, is_impossible, is_repeat, is_overlap, is_too_far, is_change, status_of, is_new_status}

-- an own cast: the next one, of a load that a frame can carry, for whose messages the window has room
pub record IsOwnCast (seat : Identity) (facts : List Fact) (c : CastFields) : Type 0 where
  pub load : FitsFrame c.load
  pub window : is_too_many seat facts (length (payloads_of c.load)) ≡ false
  pub next : c ≡ next_cast seat facts c.load

-- the numbers of messages that a frame says are numbers that messages can have
abbrev pub SaysNumbers : FrameFields → Type 0
SaysNumbers (CastFrame c) = last_number c ≤ LAST_NUMBER
SaysNumbers (StatusFrame s) = (k : ℕ) → value_in s.values k ≤ LAST_NUMBER
SaysNumbers (RequestFrame r) = Unit {0}
SaysNumbers (HelpFrame h) = Unit {0}

-- A received frame that was not refused and changed the state: of the group and its members, possible, no repeat, no overlap, not too
-- far, and news.
pub record IsTaken (seat : Identity) (facts : List Fact) (frame : FrameFields) : Type 0 where
  pub numbers : SaysNumbers frame
  pub group : group_of frame ≡ seat.group.number
  pub members : are_members seat.group.size frame ≡ true
  pub possible : is_impossible seat facts frame ≡ false
  pub new : is_repeat facts frame ≡ false
  pub apart : is_overlap facts frame ≡ false
  pub near : is_too_far seat facts frame ≡ false
  pub change : is_change seat facts frame ≡ true

-- a received cast, of a load that a frame can carry; casts are numbered from 1
pub record IsCastTaken (seat : Identity) (facts : List Fact) (c : CastFields) : Type 0 where
  pub load : FitsFrame c.load
  pub numbered : 1 ≤ first_number c
  pub taken : IsTaken seat facts (CastFrame c)

-- an own status: the one that says the time, and it differs from the last one
pub record IsOwnStatus (seat : Identity) (facts : List Fact) (s : StatusFields) : Type 0 where
  pub time : s ≡ status_of seat facts
  pub new : is_new_status seat facts ≡ true

-- the fact may follow these facts
abbrev pub IsStep : Identity → List Fact → Fact → Type 0
IsStep seat facts (OwnCast c) = IsOwnCast seat facts c
IsStep seat facts (CastReceived c) = IsCastTaken seat facts c
IsStep seat facts (StatusReceived s) = IsTaken seat facts (StatusFrame s)
IsStep seat facts (OwnStatus s) = IsOwnStatus seat facts s

-- Each fact is a step from the facts before it, however many these are.
pub data AreLegalFacts (seat : Identity) : List Fact → Type 0 where
  NoFacts : AreLegalFacts seat []
  OneFactMore : (facts : List Fact) (f : Fact) → AreLegalFacts seat facts → IsStep seat facts f → AreLegalFacts seat (facts ++ f ∷ [])

-- the facts of a member of a group, without a limit
pub record AreFactsOf (seat : Identity) (facts : List Fact) : Type 0 where
  pub group : AreParameters seat.group
  pub member : seat.me < seat.group.size
  pub facts_are : AreLegalFacts seat facts
