-- The delay rule, field by field.
use Rattle.std.proofs.Common.{◌≡◌, ◌≢◌, ℕ, ◌+◌, ◌<◌, ◌≤◌, inl, inr, List, length, refl, sym, ◌∙◌, ap, subst, arith, eqb, leb, true}
use Rattle.std.proofs.lemmas.List.{get_or_past}
use Rattle.std.proofs.lemmas.Bool.{cases_eq, cases_lt, eqb-true, leb-true}
use Rattle.cb_times.specs.Order.{field}
use Rattle.cb_delay.specs.Rule.{IsReady}

-- what the rule asks of one field
pub record IsFieldReady (sender : ℕ) (stamp now : ℕ → ℕ) (k : ℕ) : Type 0 where
  pub next : k ≡ sender → stamp k ≡ now k + 1
  pub other : k ≢ sender → stamp k ≤ now k

-- the rule holds where it holds of each field that the time has, and the sender's is one of them
pub ready_from_fields : (sender : ℕ) (time : List ℕ) (now : ℕ → ℕ) → ((k : ℕ) → k < length time → IsFieldReady sender (field time) now k)
    → sender < length time → IsReady sender (field time) now
ready_from_fields sender time now each inside = record {
  next = (each sender inside).next refl;
  others = λ k other.
      elim (cases_lt k (length time)) [
        | inl less ↦ (each k less).other other
        | inr past ↦ let none : field time k ≡ 0 = get_or_past time k 0 past in omega arith
      ];
}

-- where the rule holds, it holds of each field
pub field_from_ready : (sender : ℕ) (time : List ℕ) (now : ℕ → ℕ) → IsReady sender (field time) now → (k : ℕ) → IsFieldReady sender (field time) now k
field_from_ready sender time now ready k = record {
  next = λ same. subst (λ (j : ℕ). field time j ≡ now j + 1) (sym same) ready.next;
  other = ready.others k;
}

-- the sender's field is one of the time's
pub sender_inside : (sender : ℕ) (time : List ℕ) (now : ℕ → ℕ) → IsReady sender (field time) now → sender < length time
sender_inside sender time now ready =
    elim (cases_lt sender (length time)) [
      | inl less ↦ less
      | inr past ↦
          let none : field time sender ≡ 0 = get_or_past time sender 0 past in
          let next : field time sender ≡ now sender + 1 = ready.next in
          absurd (omega arith)
    ]

-- what the tests of the program say of one field
pub sender_field_ready : (sender : ℕ) (stamp now : ℕ → ℕ) (k s d : ℕ) → k ≡ sender → s ≡ stamp k → d ≡ now k → eqb s (d + 1) ≡ true → IsFieldReady sender stamp now k
sender_field_ready sender stamp now k s d same is_s is_d passes =
    let next : s ≡ d + 1 = eqb-true s (d + 1) passes in
    record { next = λ e. sym is_s ∙ next ∙ ap (λ (n : ℕ). n + 1) is_d; other = λ differ. absurd (differ same) }

-- and of a field that is not the sender's
pub other_field_ready : (sender : ℕ) (stamp now : ℕ → ℕ) (k s d : ℕ) → k ≢ sender → s ≡ stamp k → d ≡ now k → leb s d ≡ true → IsFieldReady sender stamp now k
other_field_ready sender stamp now k s d differ is_s is_d passes =
    let less : s ≤ d = leb-true s d passes in
    record { next = λ same. absurd (differ same); other = λ e. omega arith }

-- what holds of each number below k, and of k, holds below the next one
pub fields_more : (sender : ℕ) (stamp now : ℕ → ℕ) (i : ℕ) → ((k : ℕ) → k < i → IsFieldReady sender stamp now k) → IsFieldReady sender stamp now i
    → (k : ℕ) → k < i + 1 → IsFieldReady sender stamp now k
fields_more sender stamp now i below here k less =
    elim (cases_eq k i) [ inl same ↦ subst (λ (j : ℕ). IsFieldReady sender stamp now j) (sym same) here | inr other ↦ below k (omega arith) ]
