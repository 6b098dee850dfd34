-- What a frame says that was read, and what the code asks of changes and of values alike.
use Rattle.std.specs.Prelude.{◌≡◌, ◌≤◌, ℕ, List, length, map, Option, Some, None, Vec, Result, Ok, Err}
use Rattle.std.specs.List.{All, slice_range}
use Rattle.std.specs.Global.{Global}
use Rattle.cb_frames.specs.declared.frame.Change.{Change}
use Rattle.cb_frames.specs.declared.fault.FrameFault.{FrameFault}
use Rattle.cb_frames.specs.declared.payloads.Place.{Place}
use Rattle.cb_frames.specs.declared.reading.HeadParts.{HeadParts}
use Rattle.cb_frames.specs.declared.reading.CastParts.{CastParts}
use Rattle.cb_frames.specs.declared.reading.BurstParts.{BurstParts}
use Rattle.cb_frames.specs.declared.reading.StatusParts.{StatusParts}
use Rattle.cb_frames.specs.declared.reading.RequestParts.{RequestParts}
use Rattle.cb_frames.specs.declared.reading.HelpParts.{HelpParts}
use Rattle.cb_frames.specs.Fields.{One, Many, payloads_of, CastFields, StatusFields, RequestFields, HelpFields}
use Rattle.cb_frames.specs.Text.{AreChanges, AreValues}
use Rattle.cb_frames.specs.Reading.{CastHead, carrying}
use Rattle.cb_frames.specs.Fault.{Pairs, change_pairs, value_pairs}

-- The list is the one that was read; there is none where there was no memory for it.
abbrev pub Lists : Option (Vec Change Global) → List Change → Type 0
Lists None changes = Unit {0}
Lists (Some list) changes = list.items ≡ changes

-- a list that was read, and the bytes behind it
abbrev pub ListsBefore : Option (Vec Change Global) × List ℕ → List Change × List ℕ → Type 0
ListsBefore x read = Lists x.0 read.0 × (x.1 ≡ read.1)

-- The parts are those of the head.
pub record IsHead (p : HeadParts) (h : CastHead) : Type 0 where
  pub group : h.group ≡ p.group
  pub sender : h.sender ≡ p.sender
  pub number : h.number ≡ p.number
  pub changes : Lists p.changes h.changes

-- a head that was read, and the bytes behind it
abbrev pub IsHeadBefore : HeadParts × List ℕ → CastHead × List ℕ → Type 0
IsHeadBefore x read = IsHead x.0 read.0 × (x.1 ≡ read.1)

-- the number of a head that was passed, and the bytes behind it
abbrev pub IsNumberBefore : ℕ × List ℕ → CastHead × List ℕ → Type 0
IsNumberBefore x read = (read.0.number ≡ x.0) × (x.1 ≡ read.1)

-- as many as the cast carries payloads
abbrev pub CountsPayloads : ℕ → CastFields → Type 0
CountsPayloads n c = n ≡ length (payloads_of c.load)

abbrev pub carried_count : Result CastFields FrameFault → ℕ
carried_count (Ok c) = length (payloads_of c.load)
carried_count (Err fault) = 0

-- The parts are those of the cast.
abbrev pub ArePartsOf : CastParts → CastFields → Type 0
ArePartsOf p c = (head : CastHead) × IsHead p.head head × (c ≡ carrying head (One p.payload.now))

-- a place within bytes, and what lies there
abbrev pub IsPlaceIn : List ℕ → Place → Type 0
IsPlaceIn bytes place = (place.start ≤ place.end) × (place.end ≤ length bytes)

abbrev pub bytes_at_place : List ℕ → Place → List ℕ
bytes_at_place bytes place = slice_range bytes place.start place.end

-- The parts are those of the burst.
abbrev pub AreBurstParts : BurstParts → CastFields → Type 0
AreBurstParts p c = (head : CastHead) × IsHead p.head head × All (IsPlaceIn p.carried.now) p.places.items
    × (c ≡ carrying head (Many (map (bytes_at_place p.carried.now) p.places.items)))

-- The parts are those of the status.
pub record AreStatusParts (p : StatusParts) (s : StatusFields) : Type 0 where
  pub group : s.group ≡ p.group
  pub sender : s.sender ≡ p.sender
  pub values : Lists p.values s.values

abbrev pub request_parts_fields : RequestParts → RequestFields
request_parts_fields p = record { group = p.group; requester = p.requester; asked = p.asked; ranges = p.ranges.items }

abbrev pub help_parts_fields : HelpParts → HelpFields
help_parts_fields p = record { group = p.group; requester = p.requester; helper = p.helper; sender = p.sender; ranges = p.ranges.items }

-- the pairs of a cast, in which its sender's own field may not stand, or of a status, in which every field may
abbrev pub pairs_but : Option ℕ → Pairs Change
pairs_but (Some sender) = change_pairs sender
pairs_but None = value_pairs

abbrev pub AreChangesBut : Option ℕ → ℕ → List Change → Type 0
AreChangesBut (Some sender) = AreChanges sender
AreChangesBut None = AreValues
