-- A new cast leaves the times of the messages that were expanded before.
use Rattle.std.proofs.Common.{◌≡◌, ℕ, ◌+◌, ◌-◌, ◌≤◌, true, false, cond, eqb, List, [], ◌∷◌, ◌++◌, min, sym, ap, subst, ◌∙◌, arith, inl, inr}
use Rattle.std.specs.List.{sum_by}
use Rattle.std.proofs.lemmas.Bool.{cases_eq, cases_lt}
use Rattle.std.proofs.lemmas.List.Sums.{sum_by_push}
use Rattle.cb_frames.specs.Fields.{CastFields, Carried, first_number}
use Rattle.cb_diffs.specs.Expansion.{greatest, growth_of, expanded_field}
use Rattle.cb_diffs.proofs.Sums.{growth_of-other, growth_of-later}
use Rattle.cb_history.specs.Facts.{is_there}
use Rattle.cb_history.specs.View.{is_expanded}
use Rattle.cb_history.proofs.Views.{all_in_range}

-- a new cast adds nothing to the time of a message that was expanded before
adds_nothing : (casts : List CastFields) (c : CastFields) (m : Carried) (k : ℕ) → is_there casts c.sender (first_number c) ≡ false → 1 ≤ first_number c → is_expanded casts m ≡ true → growth_of m.sender m.number k c ≡ 0
adds_nothing casts c m k new positive expanded =
    elim (cases_eq c.sender m.sender) [
      | inr ne ↦ growth_of-other m.sender m.number k c ne
      | inl e ↦ elim (cases_lt m.number (first_number c)) [
        | inl lt ↦ growth_of-later m.sender m.number k c lt
        | inr le ↦
            let there : is_there casts m.sender (first_number c) ≡ true = all_in_range (is_there casts m.sender) (0 + 1) (m.number - 0) (first_number c) expanded (omega (arith, positive)) (omega (arith, le)) in
            let old : is_there casts c.sender (first_number c) ≡ true = subst (λ (s : ℕ). is_there casts s (first_number c) ≡ true) (sym e) there in
            let none : true ≡ false = sym old ∙ new in
            absurd cc
      ]
    ]

pub same_field : (casts : List CastFields) (c : CastFields) (m : Carried) (k : ℕ) → is_there casts c.sender (first_number c) ≡ false → 1 ≤ first_number c → is_expanded casts m ≡ true
    → expanded_field (casts ++ c ∷ []) m.sender m.number k ≡ expanded_field casts m.sender m.number k
same_field casts c m k new positive expanded =
    let none = adds_nothing casts c m k new positive expanded in
    let sums : sum_by (growth_of m.sender m.number k) (casts ++ c ∷ []) ≡ sum_by (growth_of m.sender m.number k) casts = omega (arith, sum_by_push (growth_of m.sender m.number k) casts c, none) in
    ap (λ (n : ℕ). cond (eqb k m.sender) m.number (min greatest n)) sums
