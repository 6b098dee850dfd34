-- The first ranges of what is missing cover all that is missing of the first numbers, and the first frames asked for have these.
use Rattle.std.proofs.Common.{◌≡◌, ℕ, zero, suc, ◌+◌, ◌-◌, ◌*◌, ◌<◌, ◌≤◌, Bool, true, false, not, ◌&&◌, ◌||◌, leb, List, [], ◌∷◌, min, take, refl, sym, ap, subst, arith, inl, inr, ◌⊎◌}
use Rattle.std.specs.List.{filter, list_any}
use Rattle.std.proofs.lemmas.Bool.{cond_both, le-leb, leb-true, and_parts, and_from}
use Rattle.cb_frames.specs.declared.frame.TheConstants.{LAST_NUMBER}
use Rattle.cb_frames.specs.declared.frame.Range.{Range}
use Rattle.cb_frames.specs.Text.{AreRanges}
use Rattle.cb_frames.specs.Fields.{IsSome, CastFields, Carried, messages_of, first_number, last_number}
use Rattle.cb_frames.proofs.Carried.{carries_some}
use Rattle.cb_diffs.specs.Expansion.{CarrySome}
use Rattle.cb_gaps.specs.Ranges.{IsWithin}
use Rattle.cb_gaps.proofs.Gaps.{any_cases, none_in}
use Rattle.cb_history.specs.Group.{Identity}
use Rattle.cb_history.specs.Facts.{Fact, casts_in, is_there}
use Rattle.cb_history.specs.View.{count, view}
use Rattle.cb_history.specs.Known.{known, expanded_count, missing, ranges_of}
use Rattle.cb_history.specs.Answers.{is_asked_for}
use Rattle.cb_history.specs.LegalFacts.{AreFactsOf}
use Rattle.cb_history.specs.GapLaws.{IsMissing}
use Rattle.cb_history.specs.NameLaws.{NumberedFrom}
use Rattle.cb_history.proofs.Views.{IsIn, or_left, or_right}
use Rattle.cb_history.proofs.Gaps.{ranges_of_missing}
use Rattle.cb_history.proofs.Counts.{known_are_numbers}
use Rattle.cb_history.proofs.Requests.{filtered_rise, ranges_are}
use Rattle.cb_schedules.proofs.Lists.{any_in, in_any}
use Rattle.std.specs.List.{Any}

-- ---- ranges

abbrev pub is_within : ℕ → Range → Bool
is_within n r = leb r.first n && leb n r.last

-- the number lies in one of these
abbrev pub is_in_some : List Range → ℕ → Bool
is_in_some ranges n = list_any (is_within n) ranges

within_is : (n : ℕ) (r : Range) → is_within n r ≡ true → (r.first ≤ n) × (n ≤ r.last)
within_is n r h = let both = and_parts (leb r.first n) (leb n r.last) h in (leb-true r.first n both.0, leb-true n r.last both.1)

is_or : (a b : Bool) → (a || b) ≡ true → (a ≡ true) ⊎ (b ≡ true)
is_or true b e = inl refl
is_or false b e = inr e

-- numbers in ranges are at least where these begin
pub above_least : (least n : ℕ) (ranges : List Range) → AreRanges least ranges → is_in_some ranges n ≡ true → least ≤ n
above_least least n [] are some = absurd cc
above_least least n (r ∷ ranges) are some = elim (is_or (is_within n r) (is_in_some ranges n) some) [
  | inl here ↦ let w = within_is n r here in let first = are.0 in omega (arith, w.0, first)
  | inr later ↦ let rest = above_least (r.last + 2) n ranges are.3 later in let first = are.0 in let filled = are.1 in omega (arith, rest, first, filled)
]

-- where the least of them lies in one, the first begins there
pub begins_at_least : (n : ℕ) (r : Range) (ranges : List Range) → AreRanges n (r ∷ ranges) → is_in_some (r ∷ ranges) n ≡ true → r.first ≡ n
begins_at_least n r ranges are some = elim (is_or (is_within n r) (is_in_some ranges n) some) [
  | inl here ↦ let w = within_is n r here in let first = are.0 in omega (arith, w.0, first)
  | inr later ↦ let rest = above_least (r.last + 2) n ranges are.3 later in let first = are.0 in let filled = are.1 in absurd (omega (arith, rest, first, filled))
]

-- so each range takes two numbers at least
pub first_ranges_cover : (limit low n : ℕ) (ranges : List Range) → AreRanges (low + 1) ranges → is_in_some ranges n ≡ true → n ≤ low + 2 * limit → is_in_some (take limit ranges) n ≡ true
first_ranges_cover limit low n [] are some most = absurd cc
first_ranges_cover zero low n (r ∷ ranges) are some most = let least = above_least (low + 1) n (r ∷ ranges) are some in absurd (omega (arith, least, most))
first_ranges_cover (suc limit) low n (r ∷ ranges) are some most = elim (is_or (is_within n r) (is_in_some ranges n) some) [
  | inl here ↦ or_left (is_within n r) (is_in_some (take limit ranges) n) here
  | inr later ↦
      let first = are.0 in
      let filled = are.1 in
      let e : r.last + 2 ≡ (r.last + 1) + 1 = omega arith in
      or_right (is_within n r) (is_in_some (take limit ranges) n)
      (first_ranges_cover limit (r.last + 1) n ranges (subst (λ (k : ℕ). AreRanges k ranges) e are.3) later (omega (arith, most, first, filled)))
]

pub taken_ranges_are : (limit least : ℕ) (ranges : List Range) → AreRanges least ranges → AreRanges least (take limit ranges)
taken_ranges_are zero least ranges are = tt
taken_ranges_are (suc limit) least [] are = tt
taken_ranges_are (suc limit) least (r ∷ ranges) are = (are.0, are.1, are.2, taken_ranges_are limit (r.last + 2) ranges are.3)

any_is_some : (ranges : List Range) (n : ℕ) → Any (IsWithin n) ranges → is_in_some ranges n ≡ true
any_is_some [] n h = absurd (none_in (IsWithin n) h)
any_is_some (r ∷ ranges) n h = elim (any_cases (IsWithin n) r ranges h) [
  | inl here ↦ or_left (is_within n r) (is_in_some ranges n) (and_from (leb r.first n) (leb n r.last) (le-leb r.first n here.0) (le-leb n r.last here.1))
  | inr later ↦ or_right (is_within n r) (is_in_some ranges n) (any_is_some ranges n later)
]

-- ---- what is missing

module _ (seat : Identity) (facts : List Fact) (i : ℕ) (are : AreFactsOf seat facts) where
  abbrev pub asked_ranges : List Range
  asked_ranges = ranges_of (missing seat facts i)

  -- the ranges of what is missing begin above what is expanded
  pub missing_ranges_are : AreRanges (expanded_count (casts_in facts) i + 1) (ranges_of (missing seat facts i))
  missing_ranges_are =
      let low = expanded_count (casts_in facts) i in
      let high = min (known facts i) (count (view seat.group.size facts) i + seat.group.window) in
      let bound : high ≤ LAST_NUMBER = omega (arith, known_are_numbers seat facts i are) in
      ranges_are (low + 1) (missing seat facts i) (filtered_rise (λ n. not (is_there (casts_in facts) i n)) (low + 1) (high - low) (low + 1) (omega arith) (λ k lt. omega (arith, lt, bound)))

  pub missing_is_in_some : (n : ℕ) → IsMissing seat facts i n → is_in_some (ranges_of (missing seat facts i)) n ≡ true
  missing_is_in_some n lacks = any_is_some (ranges_of (missing seat facts i)) n (((ranges_of_missing seat facts i).exactly n).1 lacks)

-- ---- the first frames

-- casts with rising numbers, from this one on: each carries some message, and begins behind the one before
abbrev pub Rising : ℕ → List CastFields → Type 0
Rising low [] = Unit {0}
Rising low (c ∷ casts) = (low ≤ first_number c) × IsSome c.load × Rising (last_number c + 1) casts

pub rising_from : (low lower : ℕ) (casts : List CastFields) → lower ≤ low → Rising low casts → Rising lower casts
rising_from low lower [] le rise = tt
rising_from low lower (c ∷ casts) le rise = let first = rise.0 in (omega (arith, le, first), rise.1, rise.2)

pub numbered_rises : (me n : ℕ) (casts : List CastFields) → CarrySome casts → NumberedFrom me n casts → Rising n casts
numbered_rises me n [] some numbered = tt
numbered_rises me n (c ∷ casts) some numbered = let number = numbered.1 in (omega (arith, number), some.0, numbered_rises me (last_number c + 1) casts some.1 numbered.2)

-- those that pass a test rise too
pub filtered_rises : (p : CastFields → Bool) (low : ℕ) (casts : List CastFields) → Rising low casts → Rising low (filter p casts)
filtered_rises p low [] rise = tt
filtered_rises p low (c ∷ casts) rise =
    cond_both (p c) (c ∷ filter p casts) (filter p casts) (Rising low)
    (λ _. (rise.0, rise.1, filtered_rises p (last_number c + 1) casts rise.2))
    (λ _. let first = rise.0 in rising_from (last_number c + 1) low (filter p casts) (omega (arith, first, carries_some c rise.1)) (filtered_rises p (last_number c + 1) casts rise.2))

begins_above : (low : ℕ) (casts : List CastFields) (c : CastFields) → Rising low casts → IsIn c casts → low ≤ first_number c
begins_above low [] c rise there = absurd there
begins_above low (d ∷ casts) c rise (inl same) = let number = ap first_number same in let first = rise.0 in omega (arith, number, first)
begins_above low (d ∷ casts) c rise (inr later) = let rest = begins_above (last_number d + 1) casts c rise.2 later in let first = rise.0 in omega (arith, rest, first, carries_some d rise.1)

each_is_some : (low : ℕ) (casts : List CastFields) (c : CastFields) → Rising low casts → IsIn c casts → IsSome c.load
each_is_some low [] c rise there = absurd there
each_is_some low (d ∷ casts) c rise (inl same) = subst (λ (x : CastFields). IsSome x.load) (sym same) rise.1
each_is_some low (d ∷ casts) c rise (inr later) = each_is_some (last_number d + 1) casts c rise.2 later

-- Where none ends below `least`, though the first may begin below it, the first `limit` of them have all
-- numbers from `least` up to below least + limit.
pub first_frames_cover : (limit low least n : ℕ) (casts : List CastFields) (c : CastFields) → Rising low casts → ((d : CastFields) → IsIn d casts → least ≤ last_number d)
    → IsIn c casts → first_number c ≤ n → least ≤ n → n < least + limit → IsIn c (take limit casts)
first_frames_cover limit low least n [] c rise each there first above less = absurd there
first_frames_cover zero low least n (d ∷ casts) c rise each there first above less = absurd (omega (arith, above, less))
first_frames_cover (suc limit) low least n (d ∷ casts) c rise each (inl same) first above less = inl same
first_frames_cover (suc limit) low least n (d ∷ casts) c rise each (inr later) first above less =
    let behind = begins_above (last_number d + 1) casts c rise.2 later in
    let ends = each d (inl refl) in
    inr (first_frames_cover limit (last_number d + 1) (last_number d + 1) n casts c rise.2
    (λ e there. let begins = begins_above (last_number d + 1) casts e rise.2 there in omega (arith, begins, carries_some e (each_is_some (last_number d + 1) casts e rise.2 there)))
    later first (omega (arith, behind, first)) (omega (arith, less, ends)))

-- ---- asked for

pub asked_for_is : (ranges : List Range) (c : CastFields) → is_asked_for ranges c ≡ true → (m : Carried) × IsIn m (messages_of c) × (is_in_some ranges m.number ≡ true)
asked_for_is ranges c h = any_in (λ (m : Carried). is_in_some ranges m.number) (messages_of c) h

pub is_asked : (ranges : List Range) (c : CastFields) (m : Carried) → IsIn m (messages_of c) → is_in_some ranges m.number ≡ true → is_asked_for ranges c ≡ true
is_asked ranges c m has h = in_any (λ (x : Carried). is_in_some ranges x.number) (messages_of c) m has h
