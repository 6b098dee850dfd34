-- What a frame says, without where it lies in memory.
use Rattle.std.specs.Prelude.{ℕ, ◌+◌, ◌-◌, ◌≤◌, length, List, [], ◌∷◌, ◌==◌, if◌then◌else◌}
use Rattle.std.specs.List.{concat, sum_by}
use Rattle.cb_frames.specs.declared.frame.Change.{Change}
use Rattle.cb_frames.specs.declared.frame.Range.{Range}
use Rattle.cb_frames.specs.declared.frame.Cast.{Cast}
use Rattle.cb_frames.specs.declared.frame.Burst.{Burst}
use Rattle.cb_frames.specs.declared.frame.Unit.{Unit as Carrying}
use Rattle.cb_frames.specs.declared.frame.Unit.TheVariants as units
use Rattle.cb_frames.specs.declared.frame.Status.{Status}
use Rattle.cb_frames.specs.declared.frame.Request.{Request}
use Rattle.cb_frames.specs.declared.frame.Help.{Help}
use Rattle.cb_frames.specs.declared.frame.Frame.{Frame}
use Rattle.cb_frames.specs.declared.frame.Frame.TheVariants as frames

-- what a cast frame carries: one payload, or those of a burst
pub data Load : Type 0 where
  One : List ℕ → Load
  Many : List (List ℕ) → Load

-- its payloads, one for each message
abbrev pub payloads_of : Load → List (List ℕ)
payloads_of (One payload) = payload ∷ []
payloads_of (Many payloads) = payloads

-- the bytes of its payloads, one behind the other
abbrev pub load_bytes : Load → List ℕ
load_bytes (One payload) = payload
load_bytes (Many payloads) = concat payloads

-- it carries one payload
abbrev pub IsOne : Load → Type 0
IsOne (One payload) = Unit {0}
IsOne (Many payloads) = ⊥

-- it carries some payload
abbrev pub IsSome : Load → Type 0
IsSome load = 1 ≤ length (payloads_of load)

pub record CastFields : Type 0 where
  pub group : ℕ
  pub sender : ℕ
  pub number : ℕ
  pub changes : List Change
  pub load : Load

pub record StatusFields : Type 0 where
  pub group : ℕ
  pub sender : ℕ
  pub values : List Change

pub record RequestFields : Type 0 where
  pub group : ℕ
  pub requester : ℕ
  pub asked : ℕ
  pub ranges : List Range

pub record HelpFields : Type 0 where
  pub group : ℕ
  pub requester : ℕ
  pub helper : ℕ
  pub sender : ℕ
  pub ranges : List Range

-- a frame, by its kind
pub data FrameFields : Type 0 where
  CastFrame : CastFields → FrameFields
  StatusFrame : StatusFields → FrameFields
  RequestFrame : RequestFields → FrameFields
  HelpFrame : HelpFields → FrameFields

abbrev pub cast_fields : Cast → CastFields
cast_fields c = record { group = c.group; sender = c.sender; number = c.number; changes = c.changes.items; load = One c.payload }

abbrev pub burst_fields : Burst → CastFields
burst_fields b = record { group = b.group; sender = b.sender; number = b.first; changes = b.changes.items; load = Many b.payloads.items }

abbrev pub unit_fields : Carrying → CastFields
unit_fields (units.One c) = cast_fields c
unit_fields (units.Many b) = burst_fields b

abbrev pub status_fields : Status → StatusFields
status_fields s = record { group = s.group; sender = s.sender; values = s.values.items }

abbrev pub request_fields : Request → RequestFields
request_fields r = record { group = r.group; requester = r.requester; asked = r.asked; ranges = r.ranges.items }

abbrev pub help_fields : Help → HelpFields
help_fields h = record { group = h.group; requester = h.requester; helper = h.helper; sender = h.sender; ranges = h.ranges.items }

abbrev pub fields_of : Frame → FrameFields
fields_of (frames.Cast c) = CastFrame (cast_fields c)
fields_of (frames.Burst b) = CastFrame (burst_fields b)
fields_of (frames.Status s) = StatusFrame (status_fields s)
fields_of (frames.Request r) = RequestFrame (request_fields r)
fields_of (frames.Help h) = HelpFrame (help_fields h)

-- A message that a cast frame carries.
pub record Carried : Type 0 where
  pub sender : ℕ
  pub number : ℕ
  pub payload : List ℕ

-- these payloads as messages of the sender, numbered from n on
abbrev pub numbered : ℕ → ℕ → List (List ℕ) → List Carried
numbered sender n [] = []
numbered sender n (payload ∷ payloads) = record { sender = sender; number = n; payload = payload } ∷ numbered sender (n + 1) payloads

-- the messages of a cast frame, in the order of their numbers
unfoldable pub messages_of : CastFields → List Carried
messages_of c = numbered c.sender c.number (payloads_of c.load)

-- the number of the last of these payloads, numbered from n on
abbrev pub last_from : ℕ → List (List ℕ) → ℕ
last_from n [] = n - 1
last_from n (payload ∷ []) = n
last_from n (payload ∷ next ∷ payloads) = last_from (n + 1) (next ∷ payloads)

-- the numbers of its first and of its last message
unfoldable pub first_number : CastFields → ℕ
first_number c = c.number

unfoldable pub last_number : CastFields → ℕ
last_number c = last_from c.number (payloads_of c.load)

-- by how much the changes say that field k has grown
abbrev pub growth_in : List Change → ℕ → ℕ
growth_in changes k = sum_by (λ d. if d.field == k then d.amount else 0) changes
