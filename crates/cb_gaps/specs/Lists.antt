-- How a buffer keeps its units: in a list, by rising numbers.
use Rattle.std.specs.Prelude.{ℕ, ◌+◌, ◌-◌, nat_lt, nat_le, if◌then◌else◌, ◌<◌, ◌≤◌, ◌^◌, ◌⊎◌, List, [], ◌∷◌, length, map, take, drop, All}
use Rattle.std.specs.FinMap.{from_sorted}
use Rattle.std.specs.declared.cmp.Ordering.{Ordering}
use Rattle.std.specs.declared.cmp.Ordering.TheVariants.{Less, Equal, Greater}
use Rattle.cb_times.specs.Group.{IsWindow}
use Rattle.cb_frames.specs.declared.frame.Unit.{Unit as Carrying}
use Rattle.cb_frames.specs.Fields.{CastFields, unit_fields, payloads_of, first_number, last_number}
use Rattle.cb_gaps.specs.declared.buffer.Admission.{Admission}
use Rattle.cb_gaps.specs.declared.buffer.Admission.TheVariants.{Kept, Repeat, Overlap, TooFar}
use Rattle.cb_gaps.specs.Buffer.{Buffer, Covers}
use Rattle.cb_gaps.specs.Ranges.{HasOne}

-- the numbers of a unit's first and of its last message
abbrev pub first_of : Carrying → ℕ
first_of c = first_number (unit_fields c)

abbrev pub last_of : Carrying → ℕ
last_of c = last_number (unit_fields c)

abbrev pub entries_of : List Carrying → List (ℕ × CastFields)
entries_of units = map (λ c. (first_of c, unit_fields c)) units

-- no unit is empty, and each begins above the last number of the one in front of it, the first one above this number
abbrev pub Rise : ℕ → List Carrying → Type 0
Rise before [] = Unit {0}
Rise before (c ∷ units) = (before < first_of c) × (first_of c ≤ last_of c) × Rise (last_of c) units

-- all numbers are below this bound
abbrev pub Below : ℕ → List Carrying → Type 0
Below bound units = All (λ c. last_of c < bound) units

pub record AreKept (window taken : ℕ) (units : List Carrying) : Type 0 where
  pub width : IsWindow window
  pub rise : Rise taken units
  pub near : Below (taken + window + 1) units
  pub in_range : Below (2 ^ 32) units

-- the buffer that the list is
abbrev pub buffer_of : ℕ → ℕ → List Carrying → Buffer
buffer_of window taken units = record { window = window; taken = taken; kept = from_sorted (entries_of units) }

-- a unit of the list covers this number
abbrev pub HasNumber : List Carrying → ℕ → Type 0
HasNumber [] number = ⊥
HasNumber (c ∷ units) number = Covers (unit_fields c) number ⊎ HasNumber units number

-- above this number, up to that one, and of no unit of the list
pub record IsGap (before last : ℕ) (units : List Carrying) (number : ℕ) : Type 0 where
  pub after : before < number
  pub upto : number ≤ last
  pub not_kept : ¬ HasNumber units number

-- where a cast lies beside the numbers first to last: before them, behind them, or it has one of them
abbrev pub side_of : CastFields → ℕ → ℕ → Ordering
side_of c first last =
    if nat_lt last (first_number c) then Greater else if nat_le (length (payloads_of c.load)) (first - first_number c) then Less else Equal

-- a unit with the numbers first to last goes here, between those of lesser and those of greater numbers
pub record IsPlaceFor (first last : ℕ) (units : List Carrying) (place : ℕ) : Type 0 where
  pub within : place ≤ length units
  pub lesser : All (λ c. last_of c < first) (take place units)
  pub greater : All (λ c. last < first_of c) (drop place units)

-- and none of them was taken
pub record IsFreePlace (taken : ℕ) (units : List Carrying) (first last place : ℕ) : Type 0 where
  pub not_taken : taken < first
  pub is_place : IsPlaceFor first last units place

-- the number was taken, or a unit of the list covers it
abbrev pub HasReceived : ℕ → List Carrying → ℕ → Type 0
HasReceived taken units number = (number ≤ taken) ⊎ HasNumber units number

-- the answer where some of the numbers first to last were received
abbrev pub IsReceivedAnswer : ℕ → List Carrying → ℕ → ℕ → Admission → Type 0
IsReceivedAnswer taken units first last Repeat = (number : ℕ) → first ≤ number → number ≤ last → HasReceived taken units number
IsReceivedAnswer taken units first last Overlap =
    HasOne (HasReceived taken units) first last × HasOne (λ number. ¬ HasReceived taken units number) first last
IsReceivedAnswer taken units first last Kept = ⊥
IsReceivedAnswer taken units first last TooFar = ⊥

-- the answer for the numbers behind this one, up to the last, where the units have all of them or not
abbrev pub IsRowAnswer : List Carrying → ℕ → ℕ → Admission → Type 0
IsRowAnswer units behind last Repeat = (number : ℕ) → behind < number → number ≤ last → HasNumber units number
IsRowAnswer units behind last Overlap = HasOne (λ number. ¬ HasNumber units number) (behind + 1) last
IsRowAnswer units behind last Kept = ⊥
IsRowAnswer units behind last TooFar = ⊥
