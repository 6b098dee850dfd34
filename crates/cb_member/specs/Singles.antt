-- The singles of a received unit that are still to be kept, and the spares for their times.
use Rattle.std.specs.Prelude.{◌≡◌, ℕ, ◌+◌, ◌<◌, ◌≤◌, All, List, [], ◌∷◌, length, Option, Some, None}
use Rattle.std.specs.List.{AllByRecursion}
use Rattle.std.specs.Vec.Iter.{into_iter_items}
use Rattle.std.specs.FinMap as map
use Rattle.cb_frames.specs.declared.frame.Cast.{Cast}
use Rattle.cb_frames.specs.declared.frame.TheConstants.{LAST_NUMBER}
use Rattle.cb_frames.specs.Fields.{CastFields, cast_fields, messages_of, numbered}
use Rattle.cb_gaps.specs.Buffer.{Buffer, IsInWindow, IsLacking}
use Rattle.cb_history.specs.NameLaws.{NumberedFrom}
use Rattle.cb_history.specs.Singles.{IsSingle, singles_from}
use Rattle.cb_member.specs.declared.singles.Singles.{Singles}
use Rattle.cb_member.specs.declared.singles.Spares.{Spares}

-- a single, and behind it those of these payloads, which change no field
abbrev pub left_from : Option Cast → List (List ℕ) → List CastFields
left_from None payloads = []
left_from (Some c) payloads = cast_fields c ∷ singles_from (cast_fields c) [] (numbered c.sender (c.number + 1) payloads)

-- the singles that are left
abbrev pub left_in : Singles → List CastFields
left_in s = left_from s.next (into_iter_items s.others)

-- each of them has a number
abbrev pub HaveNumbers : Singles → Type 0
HaveNumbers s = (c : Cast) → s.next ≡ Some c → c.number + length (into_iter_items s.others) ≤ LAST_NUMBER

-- the spares as a list
abbrev pub times_in : Spares → List (List ℕ)
times_in s = s.first ∷ s.others.items

-- a spare of the group's size for each message of the cast
pub record AreSparesFor (c : CastFields) (size : ℕ) (spares : List (List ℕ)) : Type 0 where
  pub many : length spares ≡ length (messages_of c)
  pub sizes : All (λ time. length time ≡ size) spares

-- each cast that the buffer keeps carries one message
abbrev pub KeepsSingles : Buffer → Type 0
KeepsSingles b = (number : ℕ) (c : CastFields) → map.get b.kept number ≡ Some c → IsSingle c

-- a buffer can keep these casts in turn where so many of their sender's are delivered: each carries one message, they are numbered one
-- after another, none above the greatest number, it lacks all of them, and all are in its window
pub record CanKeepInTurn (delivered : ℕ) (singles : List CastFields) (b : Buffer) : Type 0 where
  pub sender : ℕ
  pub first : ℕ
  pub upto_taken : delivered ≤ b.taken
  pub numbered : NumberedFrom sender first singles
  pub numbers : first + length singles ≤ LAST_NUMBER + 1
  pub single : AllByRecursion IsSingle singles
  pub lacking : (number : ℕ) → first ≤ number → number < first + length singles → IsLacking b number
  pub near : (number : ℕ) → first ≤ number → number < first + length singles → IsInWindow b delivered number
