-- The messages that a cast frame carries.
use Rattle.std.specs.Prelude.{◌≡◌, ℕ, ◌+◌, ◌≤◌, List, [], ◌∷◌, length}
use Rattle.cb_frames.specs.declared.frame.TheConstants.{LAST_NUMBER, MOST_MESSAGES}
use Rattle.cb_frames.specs.declared.frame.Unit.{Unit as Carrying}
use Rattle.cb_frames.specs.declared.frame.Unit.TheVariants as units
use Rattle.cb_frames.specs.Fields.{IsOne, IsSome, CastFields, Carried, burst_fields, messages_of, first_number, last_number}
use Rattle.cb_frames.specs.Text.{KeepsCastRules}

-- these messages are of the sender, and numbered one after another from n on
abbrev pub AreNumberedFrom : ℕ → ℕ → List Carried → Type 0
AreNumberedFrom sender n [] = Unit {0}
AreNumberedFrom sender n (m ∷ ms) = (m.sender ≡ sender) × (m.number ≡ n) × AreNumberedFrom sender (n + 1) ms

-- the messages of a cast are of its sender, and numbered one after another from its first number on
abbrev pub CarriedInOrder : Type 0
CarriedInOrder = (c : CastFields) → AreNumberedFrom c.sender (first_number c) (messages_of c)

-- the first number is the one that the frame says
abbrev pub FirstIsTheNumber : Type 0
FirstIsTheNumber = (c : CastFields) → first_number c ≡ c.number

-- up to its last number, where there are any
abbrev pub CarriedUpToTheLast : Type 0
CarriedUpToTheLast = (c : CastFields) → IsSome c.load → length (messages_of c) + first_number c ≡ last_number c + 1

-- and then the last number is no less than the first
abbrev pub CarriesSome : Type 0
CarriesSome = (c : CastFields) → IsSome c.load → first_number c ≤ last_number c

-- a cast of one payload carries one message
abbrev pub CarriesNoMore : Type 0
CarriesNoMore = (c : CastFields) → IsOne c.load → last_number c ≤ first_number c

-- a cast that keeps the rules carries some messages and not too many, and its last one has a number too
pub record IsCarried (c : CastFields) : Type 0 where
  pub some : IsSome c.load
  pub few : length (messages_of c) ≤ MOST_MESSAGES
  pub last : c.number ≤ LAST_NUMBER → last_number c ≤ LAST_NUMBER

abbrev pub CarriesFew : Type 0
CarriesFew = (c : CastFields) → KeepsCastRules c → IsCarried c

-- it carries some message, and each has a number
abbrev pub IsNumberedCast : CastFields → Type 0
IsNumberedCast c = IsSome c.load × (last_number c ≤ LAST_NUMBER)

-- A burst has some message, and each has a number. Of a cast it is always so.
abbrev pub IsNumbered : Carrying → Type 0
IsNumbered (units.One cast) = Unit {0}
IsNumbered (units.Many burst) = IsNumberedCast (burst_fields burst)
