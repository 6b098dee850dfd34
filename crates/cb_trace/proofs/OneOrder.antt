-- Taking the smallest member each time makes one order.
use Rattle.std.proofs.Common.{◌≡◌, ℕ, ◌+◌, List, [], ◌∷◌, ◌++◌, length, length-append, refl, sym, ap, subst, ◌∙◌, inl, inr, arith, append_assoc}
use Rattle.std.proofs.lemmas.Bool.{cases_order}
use Rattle.std.proofs.lemmas.List.{append-nil}
use Rattle.cb_history.proofs.Prefixes.{ends, same_front, same_last}
use Rattle.cb_trace.specs.JointOrder.{Histories, Goes, GoesFirst, IsGreedy, NothingTaken, SmallestTaken, IsStuck}
use Rattle.cb_trace.specs.AuditLaws.{OneGreedyOrder}

not_empty : (front : List ℕ) (k : ℕ) (rest : List ℕ) → [] ≡ front ++ k ∷ rest → ⊥
not_empty [] k rest e = cc
not_empty (i ∷ front) k rest e = cc

-- each member in it goes first behind those before it
next_is_first : (histories : Histories) (order : List ℕ) → IsGreedy histories order → (front : List ℕ) (k : ℕ) (rest : List ℕ) → order ≡ front ++ k ∷ rest → GoesFirst histories front k
next_is_first histories _ NothingTaken front k rest e = absurd (not_empty front k rest e)
next_is_first histories _ (SmallestTaken order j is first) front k rest e = elim (ends rest) [
  | inl none ↦
      let whole : order ++ j ∷ [] ≡ front ++ k ∷ [] = e ∙ ap (λ (r : List ℕ). front ++ k ∷ r) none in
      subst (λ (o : List ℕ). GoesFirst histories o k) (same_front order front j k whole)
      (subst (GoesFirst histories order) (same_last order front j k whole) first)
  | inr w ↦
      next_is_first histories order is front k w.0
      (same_front order (front ++ k ∷ w.0) j w.1 (e ∙ ap (λ (r : List ℕ). front ++ k ∷ r) w.2 ∙ sym (append_assoc front (k ∷ w.0) (w.1 ∷ []))))
]

abbrev BeginsWith : List ℕ → List ℕ → Type 0
BeginsWith order front = (rest : List ℕ) × (order ≡ front ++ rest)

one_more : (histories : Histories) (order : List ℕ) → IsGreedy histories order → IsStuck histories order → (front : List ℕ) (k : ℕ) → GoesFirst histories front k → (rest : List ℕ) → order ≡ front ++ rest
    → BeginsWith order (front ++ k ∷ [])
one_more histories order is stuck front k first [] e =
    absurd (stuck k (subst (λ (o : List ℕ). Goes histories o k) (sym (e ∙ append-nil front)) first.goes))
one_more histories order is stuck front k first (j ∷ rest) e =
    let other : GoesFirst histories front j = next_is_first histories order is front j rest e in
    elim (cases_order j k) [
      | inl same ↦ (rest, e ∙ ap (λ (i : ℕ). front ++ i ∷ rest) same ∙ sym (append_assoc front (k ∷ []) rest))
      | inr apart ↦ elim apart [
        | inl less ↦ absurd (first.smallest j less other.goes)
        | inr more ↦ absurd (other.smallest k more first.goes)
      ]
    ]

begins_with : (histories : Histories) (order : List ℕ) → IsGreedy histories order → IsStuck histories order → (front : List ℕ) → IsGreedy histories front → BeginsWith order front
begins_with histories order is stuck _ NothingTaken = (order, refl)
begins_with histories order is stuck _ (SmallestTaken front k before first) =
    let w = begins_with histories order is stuck front before in
    one_more histories order is stuck front k first w.0 w.1

nothing_behind : (front rest : List ℕ) → length (front ++ rest) ≡ length front → front ++ rest ≡ front
nothing_behind front [] e = append-nil front
nothing_behind front (i ∷ rest) e = let long = length-append front (i ∷ rest) in absurd (omega (arith, e, long))

pub one_greedy_order : OneGreedyOrder
one_greedy_order histories order other is stuck other_is other_stuck =
    let front = begins_with histories order is stuck other other_is in
    let back = begins_with histories other other_is other_stuck order is in
    let there : length order ≡ length other + length front.0 = ap length front.1 ∙ length-append other front.0 in
    let here : length other ≡ length order + length back.0 = ap length back.1 ∙ length-append order back.0 in
    front.1 ∙ nothing_behind other front.0 (sym (ap length front.1) ∙ omega (arith, there, here))
