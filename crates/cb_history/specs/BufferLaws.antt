-- What a reorder buffer holds, in terms of the casts that are there.
use Rattle.std.specs.Prelude.{◌≡◌, ◌≢◌, ℕ, ◌+◌, ◌<◌, ◌≤◌, ◌↔◌, ◌⊎◌, true, List, [], ◌∷◌, ◌++◌, Some, None}
use Rattle.std.specs.FinMap as map
use Rattle.cb_frames.specs.declared.frame.Range.{Range}
use Rattle.cb_frames.specs.Fields.{CastFields, first_number, last_number}
use Rattle.cb_gaps.specs.declared.buffer.Admission.TheVariants.{Kept}
use Rattle.cb_gaps.specs.Buffer as buffers
use Rattle.cb_gaps.specs.Buffer.{Buffer, IsNew, IsReceived, IsLacking, AreLacking, IsAfter, IsNext, Takes}
use Rattle.cb_gaps.specs.Ranges.{AreRangesOf}
use Rattle.cb_history.specs.Group.{Identity}
use Rattle.cb_history.specs.Facts.{Fact, is_there}
use Rattle.cb_history.specs.Known.{known, expanded_count, missing, ranges_of}
use Rattle.cb_history.specs.Answers.{delivered}
use Rattle.cb_history.specs.GapLaws.{IsMissing}
use Rattle.cb_history.specs.Singles.{IsSingle, singles_of, singles_in}

-- one of these casts
abbrev pub IsCastOf : CastFields → List CastFields → Type 0
IsCastOf c [] = ⊥
IsCastOf c (d ∷ casts) = (c ≡ d) ⊎ IsCastOf c casts

-- a cast of sender i that is there under this number, above what was taken
pub record IsWaiting (casts : List CastFields) (i taken number : ℕ) (c : CastFields) : Type 0 where
  pub there : IsCastOf c casts
  pub sender_is : c.sender ≡ i
  pub number_is : first_number c ≡ number
  pub not_taken : taken < number

-- The buffer of sender i, whose casts carry one message each: what was taken is expanded, and just the casts above it are kept.
pub record HoldsWhatWaits (casts : List CastFields) (i : ℕ) (buffer : Buffer) : Type 0 where
  pub single : (c : CastFields) → IsCastOf c casts → c.sender ≡ i → IsSingle c
  pub taken : buffer.taken ≤ expanded_count casts i
  pub kept : (number : ℕ) (c : CastFields) → (map.get buffer.kept number ≡ Some c) ↔ IsWaiting casts i buffer.taken number c

-- ---- what changes it

-- a new buffer holds what waits where no cast is there
abbrev pub NewBufferHolds : Type 0
NewBufferHolds = (window i : ℕ) (buffer : Buffer) → IsNew window buffer → HoldsWhatWaits [] i buffer

-- with one more single of its sender that it lacked and keeps
abbrev pub KeptCastWaits : Type 0
KeptCastWaits = (casts : List CastFields) (i : ℕ) (c : CastFields) (old new : Buffer) → HoldsWhatWaits casts i old → c.sender ≡ i → IsSingle c
    → IsLacking old (first_number c) → IsAfter old c Kept new → HoldsWhatWaits (casts ++ c ∷ []) i new

-- these casts were kept one after another
abbrev pub AreKept : Buffer → List CastFields → Buffer → Type 0
AreKept old [] new = new ≡ old
AreKept old (c ∷ casts) new = (mid : Buffer) × IsAfter old c Kept mid × AreKept mid casts new

-- with the singles of one more cast of its sender, of which it lacked every message and keeps them one after another
abbrev pub KeptSinglesWait : Type 0
KeptSinglesWait = (casts : List CastFields) (c : CastFields) (old new : Buffer) → HoldsWhatWaits casts c.sender old → AreLacking old (first_number c) (last_number c)
    → AreKept old (singles_of c) new → HoldsWhatWaits (casts ++ singles_of c) c.sender new

-- with one more cast of another sender as it is
abbrev pub OthersDoNotWait : Type 0
OthersDoNotWait = (casts : List CastFields) (i : ℕ) (c : CastFields) (buffer : Buffer) → HoldsWhatWaits casts i buffer → c.sender ≢ i → HoldsWhatWaits (casts ++ c ∷ []) i buffer

-- and with its singles
abbrev pub OtherSinglesDoNotWait : Type 0
OtherSinglesDoNotWait = (casts : List CastFields) (i : ℕ) (c : CastFields) (buffer : Buffer) → HoldsWhatWaits casts i buffer → c.sender ≢ i → HoldsWhatWaits (casts ++ singles_of c) i buffer

-- with the next cast taken out, which is one of its sender's casts that are there
abbrev pub TakenCastIsThere : Type 0
TakenCastIsThere = (casts : List CastFields) (i : ℕ) (c : CastFields) (old new : Buffer) → HoldsWhatWaits casts i old → IsNext old c → Takes old c new
    → IsCastOf c casts × (c.sender ≡ i) × HoldsWhatWaits casts i new

-- where the next cast is not kept, as many were taken as are expanded
abbrev pub AllIsTaken : Type 0
AllIsTaken = (casts : List CastFields) (i : ℕ) (buffer : Buffer) → HoldsWhatWaits casts i buffer → map.get buffer.kept (buffer.taken + 1) ≡ None → buffer.taken ≡ expanded_count casts i

-- ---- what it says

-- a number from 1 on was received exactly where its cast is there
abbrev pub ReceivedIsThere : Type 0
ReceivedIsThere = (casts : List CastFields) (i number : ℕ) (buffer : Buffer) → HoldsWhatWaits casts i buffer → 1 ≤ number → IsReceived buffer number ↔ (is_there casts i number ≡ true)

-- a buffer that holds what waits of the singles lacks exactly what is missing of the sender
abbrev pub MissingIsLacked : Type 0
MissingIsLacked = (seat : Identity) (facts : List Fact) (i number : ℕ) (buffer : Buffer) → HoldsWhatWaits (singles_in facts) i buffer → buffer.window ≡ seat.group.window
    → buffers.IsMissing buffer (delivered seat facts i) (known facts i) number ↔ IsMissing seat facts i number

-- so its ranges are those that are asked for
abbrev pub RangesAreAskedFor : Type 0
RangesAreAskedFor = (seat : Identity) (facts : List Fact) (i : ℕ) (buffer : Buffer) (ranges : List Range) → HoldsWhatWaits (singles_in facts) i buffer → buffer.window ≡ seat.group.window
    → AreRangesOf (buffers.IsMissing buffer (delivered seat facts i) (known facts i)) ranges → ranges ≡ ranges_of (missing seat facts i)
