-- The gaps between units of rising numbers.
use Rattle.std.proofs.Common.{append_assoc, ap, ◌≡◌, ℕ, zero, suc, ◌+◌, ◌-◌, ◌<◌, ◌≤◌, ◌^◌, ◌⊎◌, true, false, cond, ltb, min, List, [], ◌∷◌, ◌++◌, length, sym, ◌∙◌, subst, arith, append-nil, refl, inl, inr, All, Any}
use Rattle.std.proofs.lemmas.Bool.Decides.{nat_tests}
use Rattle.std.proofs.lemmas.List.Elements.{All-head, All-tail, All-cons, All-weaker}
use Rattle.std.proofs.lemmas.List.Kept.{AllPairs-cons}
use Rattle.cb_frames.specs.declared.frame.Unit.{Unit as Carrying}
use Rattle.cb_frames.specs.declared.frame.Range.{Range}
use Rattle.cb_frames.specs.Fields.{unit_fields}
use Rattle.cb_gaps.specs.Ranges.{IsWithin, AreRangesOf, gap_between}
use Rattle.cb_frames.specs.Carrying.{IsNumbered}
use Rattle.cb_gaps.specs.Lists.{first_of, last_of, Rise, Below, IsGap}
use Rattle.cb_gaps.proofs.Spans.{cases_covers, is_numbered}
use Rattle.cb_gaps.proofs.Entries.{none_before}

-- the gaps from above `before`, up to `last`
abbrev pub gaps_from : ℕ → ℕ → List Carrying → List Range
gaps_from before last [] = gap_between before last
gaps_from before last (c ∷ units) = gap_between before (min last (first_of c - 1)) ++ gaps_from (last_of c) last units

-- what the gaps are, over how a gap in front of ranges changes them
record AreGaps (numbers : ℕ → Type 0) (before : ℕ) (ranges : List Range) : Type 0 where
  are : AreRangesOf numbers ranges
  later : All (λ r. before < r.first) ranges

pub any_cons : (P : Range → Type 0) (r : Range) (ranges : List Range) → Any P ranges → Any P (r ∷ ranges)
any_cons P r ranges (k, x, below, at, holds) = (suc k, x, omega arith, at, holds)

pub any_cases : (P : Range → Type 0) (r : Range) (ranges : List Range) → Any P (r ∷ ranges) → P r ⊎ Any P ranges
any_cases P r ranges (zero, x, below, at, holds) = inl (subst P (sym at) holds)
any_cases P r ranges (suc k, x, below, at, holds) = inr (k, x, omega arith, at, holds)

pub at_front : (P : Range → Type 0) (r : Range) (ranges : List Range) → P r → Any P (r ∷ ranges)
at_front P r ranges holds = (0, r, omega arith, refl, holds)

ltb-less : (a b : ℕ) → ltb a b ≡ true → a < b
ltb-less a b e = grind (arith, nat_tests)

ltb-not : (a b : ℕ) → ltb a b ≡ false → b ≤ a
ltb-not a b e = grind (arith, nat_tests)

-- a gap in front of ranges that begin above `middle`
gap_in_front : (numbers rest : ℕ → Type 0) (before end middle : ℕ) (ranges : List Range) → AreGaps rest middle ranges
    → before ≤ middle → end < middle
    → ((n : ℕ) → numbers n → ((before < n) × (n ≤ end)) ⊎ rest n)
    → ((n : ℕ) → before < n → n ≤ end → numbers n)
    → ((n : ℕ) → rest n → numbers n)
    → AreGaps numbers before (gap_between before end ++ ranges)
gap_in_front numbers rest before end middle ranges gaps order below split in_gap in_rest =
    let r : Range = record { first = before + 1; last = end } in
    elim (ltb before end) as (λ b. ltb before end ≡ b → AreGaps numbers before (cond b (r ∷ []) [] ++ ranges)) [
      | true ↦ λ e.
          let some : before < end = ltb-less before end e in
          record {
            are = record {
              exactly = λ n. (
                λ any. elim (any_cases (IsWithin n) r ranges any) as (λ _. numbers n) [
                  | inl within ↦ in_gap n (omega (arith, within.0)) within.1
                  | inr later ↦ in_rest n ((gaps.are.exactly n).0 later)
                ],
                λ holds. elim (split n holds) as (λ _. Any (IsWithin n) (r ∷ ranges)) [
                  | inl within ↦ at_front (IsWithin n) r ranges (omega (arith, within.0), within.1)
                  | inr later ↦ any_cons (IsWithin n) r ranges ((gaps.are.exactly n).1 later)
                ],
              );
              filled = All-cons (λ x. x.first ≤ x.last) r ranges (omega (arith, some)) gaps.are.filled;
              apart = AllPairs-cons (λ x y. x.last + 2 ≤ y.first) r ranges
                  (All-weaker (λ x. middle < x.first) (λ x. end + 2 ≤ x.first) (λ x h. omega (arith, h, below)) ranges gaps.later)
                  gaps.are.apart;
            };
            later = All-cons (λ x. before < x.first) r ranges (omega arith)
                (All-weaker (λ x. middle < x.first) (λ x. before < x.first) (λ x h. omega (arith, h, order)) ranges gaps.later);
          }
      | false ↦ λ e.
          let none : end ≤ before = ltb-not before end e in
          record {
            are = record {
              exactly = λ n. (
                λ any. in_rest n ((gaps.are.exactly n).0 any),
                λ holds. elim (split n holds) as (λ _. Any (IsWithin n) ranges) [
                  | inl within ↦ absurd (omega (arith, within.0, within.1, none))
                  | inr later ↦ (gaps.are.exactly n).1 later
                ],
              );
              filled = gaps.are.filled;
              apart = gaps.are.apart;
            };
            later = All-weaker (λ x. middle < x.first) (λ x. before < x.first) (λ x h. omega (arith, h, order)) ranges gaps.later;
          }
    ] refl

pub none_in : (P : Range → Type 0) → Any P [] → ⊥
none_in P (k, x, below, at, holds) = omega (arith, below)

no_gaps : (middle : ℕ) → AreGaps (λ _. ⊥) middle []
no_gaps middle = record {
  are = record {
    exactly = λ n. (λ any. none_in (IsWithin n) any, λ none. absurd none);
    filled = λ k d below. absurd (omega (arith, below));
    apart = λ i j d order below. absurd (omega (arith, below));
  };
  later = λ k d below. absurd (omega (arith, below));
}

gaps : (before last : ℕ) (units : List Carrying) → Rise before units → AreGaps (IsGap before last units) before (gaps_from before last units)
gaps before last [] rise =
    subst (λ (l : List Range). AreGaps (IsGap before last []) before l) (append-nil (gap_between before last))
    (gap_in_front (IsGap before last []) (λ _. ⊥) before last (before + last + 1) [] (no_gaps (before + last + 1)) (omega arith) (omega arith)
    (λ n gap. inl (gap.after, gap.upto))
    (λ n after upto. record { after = after; upto = upto; not_kept = λ has. has })
    (λ n none. absurd none))
gaps before last (c ∷ units) rise =
    gap_in_front (IsGap before last (c ∷ units)) (IsGap (last_of c) last units) before (min last (first_of c - 1)) (last_of c)
    (gaps_from (last_of c) last units) (gaps (last_of c) last units rise.2) (omega (arith, rise.0, rise.1)) (omega (arith, rise.0, rise.1))
    (λ n gap.
    elim (cases_covers (unit_fields c) n) as (λ _. ((before < n) × (n ≤ min last (first_of c - 1))) ⊎ IsGap (last_of c) last units n) [
      | inl covers ↦ absurd (gap.not_kept (inl covers))
      | inr outside ↦ elim outside as (λ _. ((before < n) × (n ≤ min last (first_of c - 1))) ⊎ IsGap (last_of c) last units n) [
        | inl less ↦ inl (gap.after, omega (arith, less, gap.upto))
        | inr more ↦ inr (record { after = more; upto = gap.upto; not_kept = λ later. gap.not_kept (inr later) })
      ]
    ])
    (λ n after upto. record {
      after = after;
      upto = omega (arith, upto);
      not_kept = none_before n n (c ∷ units) (omega (arith, upto, rise.0), rise.1, rise.2) (omega arith);
    })
    (λ n gap. record {
      after = omega (arith, gap.after, rise.0, rise.1);
      upto = gap.upto;
      not_kept = λ has. elim has as (λ _. ⊥) [
        | inl covers ↦ omega (arith, covers.1, gap.after)
        | inr later ↦ gap.not_kept later
      ];
    })

pub gaps_are : (before last : ℕ) (units : List Carrying) → Rise before units → AreRangesOf (IsGap before last units) (gaps_from before last units)
gaps_are before last units rise = (gaps before last units rise).are

-- ---- a walk over units

-- what stands next has numbers
pub one_numbered : (before : ℕ) (c : Carrying) (rest behind : List Carrying) → rest ≡ c ∷ behind → Rise before rest → Below (2 ^ 32) rest → IsNumbered c
one_numbered before c rest behind step rise below =
    let now : Rise before (c ∷ behind) = subst (Rise before) step rise in
    is_numbered c (omega (arith, now.0)) now.1 (All-head (λ x. last_of x < 2 ^ 32) c behind (subst (Below (2 ^ 32)) step below))

pub one_rise : (before : ℕ) (c : Carrying) (rest behind : List Carrying) → rest ≡ c ∷ behind → Rise before rest → Rise (last_of c) behind
one_rise before c rest behind step rise =
    let now : Rise before (c ∷ behind) = subst (Rise before) step rise in
    now.2

pub one_below : (bound : ℕ) (c : Carrying) (rest behind : List Carrying) → rest ≡ c ∷ behind → Below bound rest → Below bound behind
one_below bound c rest behind step below = All-tail (λ x. last_of x < bound) c behind (subst (Below bound) step below)

-- one unit more
module _ (taken last before : ℕ) (c : Carrying) (units rest behind : List Carrying) (so_far more : List Range) (step : rest ≡ c ∷ behind) where
  pub one_gap : (end : ℕ) → end ≡ min last (first_of c - 1) → more ≡ so_far ++ gap_between before end
      → so_far ++ gaps_from before last rest ≡ gaps_from taken last units → more ++ gaps_from (last_of c) last behind ≡ gaps_from taken last units
  one_gap end ends made kept =
      let same : gap_between before end ++ gaps_from (last_of c) last behind ≡ gaps_from before last rest =
      rw (step, ends) refl in
      ap (λ (rs : List Range). rs ++ gaps_from (last_of c) last behind) made
      ∙ append_assoc so_far (gap_between before end) (gaps_from (last_of c) last behind)
      ∙ ap (λ (rs : List Range). so_far ++ rs) same ∙ kept

-- and so what a walk over all units has made
pub walked : (taken last before : ℕ) (units rest : List Carrying) (so_far all : List Range) → Rise taken units → length rest ≡ 0
    → so_far ++ gaps_from before last rest ≡ gaps_from taken last units → all ≡ so_far ++ gap_between before last
    → AreRangesOf (IsGap taken last units) all
walked taken last before units [] so_far all rise done kept made =
    subst (λ (l : List Range). AreRangesOf (IsGap taken last units) l) (sym (made ∙ kept)) (gaps_are taken last units rise)
walked taken last before units (c ∷ rest) so_far all rise done kept made = absurd (omega (arith, done))
