-- Ranges with the same numbers are one list.
use Rattle.std.proofs.Common.{◌≡◌, ℕ, suc, ◌+◌, ◌≤◌, List, [], ◌∷◌, sym, ap, subst, ◌∙◌, refl, arith, inl, inr, All, AllPairs}
use Rattle.std.proofs.lemmas.Bool.{cases_lt}
use Rattle.std.proofs.lemmas.List.Elements.{All-head, All-tail}
use Rattle.cb_frames.specs.declared.frame.Range.{Range}
use Rattle.cb_gaps.specs.Ranges.{IsWithin, AreRangesOf, IsInSome, RangesAreOneList}
use Rattle.cb_gaps.proofs.Gaps.{any_cons, any_cases, at_front, none_in}

-- what is so of the ranges of any set
record AreRanges (ranges : List Range) : Type 0 where
  filled : All (λ range. range.first ≤ range.last) ranges
  apart : AllPairs (λ earlier later. earlier.last + 2 ≤ later.first) ranges

first_filled : (r : Range) (ranges : List Range) → AreRanges (r ∷ ranges) → r.first ≤ r.last
first_filled r ranges are = All-head (λ (x : Range). x.first ≤ x.last) r ranges are.filled

tail_are : (r : Range) (ranges : List Range) → AreRanges (r ∷ ranges) → AreRanges ranges
tail_are r ranges are = record {
  filled = All-tail (λ (x : Range). x.first ≤ x.last) r ranges are.filled;
  apart = λ i j d order below. are.apart (suc i) (suc j) d (omega arith) (omega arith);
}

-- what lies in a later range is beyond the first one
later_beyond : (r : Range) (ranges : List Range) (n : ℕ) → AreRanges (r ∷ ranges) → IsInSome ranges n → r.last + 2 ≤ n
later_beyond r ranges n are (k, x, below, at, holds) =
    let gap : r.last + 2 ≤ x.first = subst (λ (y : Range). r.last + 2 ≤ y.first) at (are.apart 0 (suc k) x (omega arith) (omega arith)) in
    omega (arith, gap, holds.0)

-- no number is before the first range
none_before : (r : Range) (ranges : List Range) (n : ℕ) → AreRanges (r ∷ ranges) → IsInSome (r ∷ ranges) n → r.first ≤ n
none_before r ranges n are h = elim (any_cases (IsWithin n) r ranges h) [
  | inl within ↦ within.0
  | inr later ↦ let beyond = later_beyond r ranges n are later in omega (arith, beyond, first_filled r ranges are)
]

first_in : (r : Range) (ranges : List Range) → AreRanges (r ∷ ranges) → IsInSome (r ∷ ranges) r.first
first_in r ranges are = at_front (IsWithin r.first) r ranges (omega arith, first_filled r ranges are)

-- the first range goes on as long as the other's first one
last_reaches : (r s : Range) (ranges others : List Range) → AreRanges (r ∷ ranges) → AreRanges (s ∷ others) → r.first ≡ s.first → ((n : ℕ) → IsInSome (s ∷ others) n → IsInSome (r ∷ ranges) n) → s.last ≤ r.last
last_reaches r s ranges others are be first into = elim (cases_lt r.last s.last) [
  | inr le ↦ le
  | inl lt ↦
      let filled = first_filled r ranges are in
      let there = into (r.last + 1) (at_front (IsWithin (r.last + 1)) s others (omega (arith, first, filled), omega (arith, lt))) in
      absurd (elim (any_cases (IsWithin (r.last + 1)) r ranges there) [
        | inl within ↦ let upto = within.1 in omega (arith, upto)
        | inr later ↦ let beyond = later_beyond r ranges (r.last + 1) are later in omega (arith, beyond)
      ])
]

rest_into : (r s : Range) (ranges others : List Range) (n : ℕ) → AreRanges (r ∷ ranges) → r.last ≡ s.last → (IsInSome (r ∷ ranges) n → IsInSome (s ∷ others) n) → IsInSome ranges n → IsInSome others n
rest_into r s ranges others n are last into h = elim (any_cases (IsWithin n) s others (into (any_cons (IsWithin n) r ranges h))) [
  | inl within ↦ absurd (let beyond = later_beyond r ranges n are h in let upto = within.1 in omega (arith, beyond, upto, last))
  | inr later ↦ later
]

same_range : (r s : Range) → r.first ≡ s.first → r.last ≡ s.last → r ≡ s
same_range r s first last = ap (λ (n : ℕ). let x : Range = record { first = n; last = r.last } in x) first ∙ ap (λ (n : ℕ). let x : Range = record { first = s.first; last = n } in x) last

same_list : (ranges others : List Range) → AreRanges ranges → AreRanges others → ((n : ℕ) → IsInSome ranges n → IsInSome others n) → ((n : ℕ) → IsInSome others n → IsInSome ranges n) → ranges ≡ others
same_list [] [] are be into back = refl
same_list [] (s ∷ others) are be into back = absurd (none_in (IsWithin s.first) (back s.first (first_in s others be)))
same_list (r ∷ ranges) [] are be into back = absurd (none_in (IsWithin r.first) (into r.first (first_in r ranges are)))
same_list (r ∷ ranges) (s ∷ others) are be into back =
    let low = none_before s others r.first be (into r.first (first_in r ranges are)) in
    let high = none_before r ranges s.first are (back s.first (first_in s others be)) in
    let first : r.first ≡ s.first = omega (arith, low, high) in
    let least = last_reaches r s ranges others are be first back in
    let most = last_reaches s r others ranges be are (sym first) into in
    let last : r.last ≡ s.last = omega (arith, least, most) in
    let rest = same_list ranges others (tail_are r ranges are) (tail_are s others be) (λ n. rest_into r s ranges others n are last (into n)) (λ n. rest_into s r others ranges n be (sym last) (back n)) in
    ap (λ (x : Range). x ∷ ranges) (same_range r s first last) ∙ ap (λ (xs : List Range). s ∷ xs) rest

-- the ranges of any set of numbers are one list
pub one_list : (numbers : ℕ → Type 0) (ranges others : List Range) → AreRangesOf numbers ranges → AreRangesOf numbers others → ranges ≡ others
one_list numbers ranges others are be =
    same_list ranges others (record { filled = are.filled; apart = are.apart }) (record { filled = be.filled; apart = be.apart })
    (λ n h. (be.exactly n).1 ((are.exactly n).0 h)) (λ n h. (are.exactly n).1 ((be.exactly n).0 h))

pub ranges_are_one_list : RangesAreOneList
ranges_are_one_list ranges others are be =
    same_list ranges others (record { filled = are.filled; apart = are.apart }) (record { filled = be.filled; apart = be.apart })
    (λ n h. (are.exactly n).0 h) (λ n h. (be.exactly n).0 h)
