-- The numbers that units cover: one after another, from the first to the last.
use Rattle.std.proofs.Common.{◌≡◌, List, [], ◌∷◌, length, ℕ, ◌+◌, ◌<◌, ◌≤◌, ◌^◌, ◌⊎◌, inl, inr, arith}
use Rattle.std.proofs.lemmas.Bool.{cases_lt}
use Rattle.cb_frames.specs.declared.frame.Unit.{Unit as Carrying}
use Rattle.cb_frames.specs.Fields.{CastFields, IsSome, unit_fields, last_from, payloads_of, first_number, last_number}
use Rattle.cb_frames.specs.Carrying.{IsNumbered}
use Rattle.cb_frames.proofs.Carried.{carries_payloads, carries_some, carried_up_to_the_last, fields_numbered}
use Rattle.cb_gaps.specs.Buffer.{Covers}
use Rattle.cb_gaps.specs.Lists.{first_of, last_of}

-- what has a first number above 0 that is no greater than the last one carries some payload
some_payload : (n : ℕ) (payloads : List (List ℕ)) → 0 < n → n ≤ last_from n payloads → 1 ≤ length payloads
some_payload n [] above filled = absurd (omega (arith, above, filled))
some_payload n (payload ∷ payloads) above filled = omega arith

pub filled_has_some : (c : CastFields) → 0 < first_number c → first_number c ≤ last_number c → IsSome c.load
unfolding first_number last_number
filled_has_some c above filled = some_payload c.number (payloads_of c.load) above filled

-- and so one for each of its numbers
pub counted : (c : CastFields) → 0 < first_number c → first_number c ≤ last_number c
    → length (payloads_of c.load) + first_number c ≡ last_number c + 1
counted c above filled = omega (arith, carries_payloads c, carried_up_to_the_last c (filled_has_some c above filled))

pub covers_first : (c : CastFields) → IsSome c.load → Covers c (first_number c)
covers_first c some = (omega arith, carries_some c some)

-- the number is covered, or lies on one side
pub cases_covers : (c : CastFields) (n : ℕ) → Covers c n ⊎ ((n < first_number c) ⊎ (last_number c < n))
cases_covers c n =
    elim (cases_lt n (first_number c)) as (λ _. Covers c n ⊎ ((n < first_number c) ⊎ (last_number c < n))) [
      | inl below ↦ inr (inl below)
      | inr from ↦ elim (cases_lt (last_number c) n) as (λ _. Covers c n ⊎ ((n < first_number c) ⊎ (last_number c < n))) [
        | inl beyond ↦ inr (inr beyond)
        | inr upto ↦ inl (from, upto)
      ]
    ]

-- a unit with numbers from above 0 to within the range of numbers
pub is_numbered : (u : Carrying) → 0 < first_of u → first_of u ≤ last_of u → last_of u < 2 ^ 32 → IsNumbered u
is_numbered u above filled below =
    fields_numbered u (filled_has_some (unit_fields u) above filled, omega (arith, below))
