-- The time of a cast from the increments of its sender's frames.
use Rattle.std.specs.Prelude.{◌≡◌, ◌≢◌, ℕ, ◌+◌, ◌<◌, ◌&&◌, All, List, [], ◌∷◌, length, map, max, min, slice_index_or, slice_set, nat_le, ◌==◌, if◌then◌else◌}
use Rattle.std.specs.List.{AllByRecursion, sum_by, range_with_len}
use Rattle.cb_times.specs.Group.{IsGroupSize}
use Rattle.cb_times.specs.Order.{field}
use Rattle.cb_frames.specs.declared.frame.Change.{Change}
use Rattle.cb_frames.specs.declared.frame.TheConstants.{LAST_NUMBER}
use Rattle.cb_frames.specs.Fields.{IsSome, CastFields, first_number, last_number, growth_in}

-- the greatest number, at which a field stays
abbrev pub greatest : ℕ
greatest = LAST_NUMBER

-- each of these casts carries some message
abbrev pub CarrySome : List CastFields → Type 0
CarrySome casts = AllByRecursion (λ c. IsSome c.load) casts

-- ---- the expanded time

-- by how much a frame grows field k of the times of the sender's messages from its first one on
abbrev pub growth_of : ℕ → ℕ → ℕ → CastFields → ℕ
growth_of sender number k c = if c.sender == sender && nat_le (first_number c) number then growth_in c.changes k else 0

-- Field k of the time of a sender's message is the sum of the increments over the sender's frames up to it,
-- held at the greatest number. The sender's own field is the message's number.
abbrev pub expanded_field : List CastFields → ℕ → ℕ → ℕ → ℕ
expanded_field casts sender number k =
    if k == sender then number else min greatest (sum_by (growth_of sender number k) casts)

abbrev pub expanded_time : ℕ → List CastFields → ℕ → ℕ → List ℕ
expanded_time size casts sender number = map (expanded_field casts sender number) (range_with_len 0 size)

-- the greatest message number among a sender's frames, 0 where there are none
abbrev pub last_in : List CastFields → ℕ → ℕ
last_in [] sender = 0
last_in (c ∷ casts) sender = if c.sender == sender then max (last_number c) (last_in casts sender) else last_in casts sender

-- ---- one expansion

-- what is kept for this sender: the time of its last message
abbrev pub time_of : List (List ℕ) → ℕ → List ℕ
time_of times sender = slice_index_or times sender []

-- one time for each member, each with a field for each
pub record AreTimes (times : List (List ℕ)) : Type 0 where
  pub group : IsGroupSize (length times)
  pub sizes : All (λ t. length t ≡ length times) times

-- this sender and the changed fields are members of a group of this size
pub record AreMembersOf (size who : ℕ) (grown : List Change) : Type 0 where
  pub sender : who < size
  pub changes : All (λ d. d.field < size) grown

abbrev pub AreMembers : ℕ → CastFields → Type 0
AreMembers size c = AreMembersOf size c.sender c.changes

-- A cast says of its sender's time who sends it, the number of its first message, and how the other fields grew. That is all
-- that the time of this message depends on.
pub record IsToldBy (c : CastFields) (sender first : ℕ) (changes : List Change) : Type 0 where
  pub sender_is : c.sender ≡ sender
  pub first_is : c.number ≡ first
  pub changes_are : c.changes ≡ changes

-- The new time is the old one with what the cast adds. It is the time of the first message of the cast: what the cast says of the
-- other fields counts once, before that message, and between its messages no field but the sender's own grows.
pub record IsGrown (old : List ℕ) (c : CastFields) (new : List ℕ) : Type 0 where
  pub size : length new ≡ length old
  pub own : field new c.sender ≡ first_number c
  pub others : (k : ℕ) → k < length old → k ≢ c.sender → field new k ≡ min greatest (field old k + growth_in c.changes k)

-- the number that the sender's next cast would have
abbrev pub expected_number : List ℕ → ℕ → ℕ
expected_number time sender = min greatest (field time sender + 1)

-- the cast is of members, and its sender's next one
pub record IsNext (times : List (List ℕ)) (c : CastFields) : Type 0 where
  pub members : AreMembers (length times) c
  pub next : first_number c ≡ field (time_of times c.sender) c.sender + 1

-- and why it may not be: a member is strange, or the number is not the next one
abbrev pub IsStrange : List (List ℕ) → CastFields → Type 0
IsStrange times c = ¬ AreMembers (length times) c

pub record IsNotNext (times : List (List ℕ)) (c : CastFields) (expected found : ℕ) : Type 0 where
  pub members : AreMembers (length times) c
  pub not_next : first_number c ≢ field (time_of times c.sender) c.sender + 1
  pub expected_is : expected ≡ expected_number (time_of times c.sender) c.sender
  pub found_is : found ≡ first_number c

-- what is kept of the time of a cast's first message: it counts the cast's last one
abbrev pub kept_time : CastFields → List ℕ → List ℕ
kept_time c time = slice_set time c.sender (last_number c)

-- The cast is its sender's next one and carries some message, `time` is its time, and what is kept of it takes the place of the
-- sender's time before.
pub record Expands (old : List (List ℕ)) (c : CastFields) (time : List ℕ) (new : List (List ℕ)) : Type 0 where
  pub members : AreMembers (length old) c
  pub some : IsSome c.load
  pub next : first_number c ≡ field (time_of old c.sender) c.sender + 1
  pub grown : IsGrown (time_of old c.sender) c time
  pub kept : new ≡ slice_set old c.sender (kept_time c time)

-- ---- many expansions

-- casts were expanded one after another, and these times were given
abbrev pub ExpandsAll : List (List ℕ) → List CastFields → List (List ℕ) → List (List ℕ) → Type 0
ExpandsAll old [] [] new = new ≡ old
ExpandsAll old (c ∷ casts) (time ∷ times) new = (mid : List (List ℕ)) × Expands old c time mid × ExpandsAll mid casts times new
ExpandsAll old [] (time ∷ times) new = ⊥
ExpandsAll old (c ∷ casts) [] new = ⊥
