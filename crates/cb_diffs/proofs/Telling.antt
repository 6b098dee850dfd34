-- The loop that collects what grew.
use Rattle.std.proofs.Common.{◌≡◌, ◌≢◌, ℕ, ◌+◌, ◌-◌, ◌<◌, ◌≤◌, Bool, true, false, cond, eqb, not, List, [], ◌∷◌, ◌++◌, map, refl, sym, ap, ◌∙◌, arith}
use Rattle.std.specs.List.{filter, range_with_len}
use Rattle.std.proofs.lemmas.Bool.{eq-eqb, ne_eqb, lt-ltb, le-ltb, and_right}
use Rattle.std.proofs.lemmas.List.{append-nil}
use Rattle.std.proofs.lemmas.List.FromFn.{filter_of_map_range_with_len_more}
use Rattle.cb_times.specs.Order.{field}
use Rattle.cb_frames.specs.declared.frame.Change.{Change}
use Rattle.cb_diffs.specs.Differences.{change_of, is_reported}

-- the changes of the first fields
abbrev pub reported_of : List ℕ → List ℕ → ℕ → ℕ → List Change
reported_of previous now own k = filter (is_reported own) (map (change_of previous now) (range_with_len 0 k))

reported_of-more : (previous now : List ℕ) (own k : ℕ) → reported_of previous now own (k + 1) ≡ reported_of previous now own k ++ cond (is_reported own (change_of previous now k)) (change_of previous now k ∷ []) []
reported_of-more previous now own k = filter_of_map_range_with_len_more (is_reported own) (change_of previous now) 0 k k (omega arith)

pub one_reported : (previous now : List ℕ) (own k amount : ℕ) → amount ≡ field now k - field previous k → k ≢ own → 0 < amount → reported_of previous now own k ++ record { field = k; amount = amount } ∷ [] ≡ reported_of previous now own (k + 1)
one_reported previous now own k amount is ne lt =
    let passes : is_reported own (change_of previous now k) ≡ true = rw (ne_eqb k own ne, lt-ltb 0 (field now k - field previous k) (omega (arith, is))) refl in
    ap (λ (n : ℕ). reported_of previous now own k ++ record { field = k; amount = n } ∷ []) is
    ∙ sym (reported_of-more previous now own k ∙ ap (λ (b : Bool). reported_of previous now own k ++ cond b (change_of previous now k ∷ []) []) passes)

none_reported : (previous now : List ℕ) (own k : ℕ) → is_reported own (change_of previous now k) ≡ false → reported_of previous now own k ≡ reported_of previous now own (k + 1)
none_reported previous now own k fails =
    sym (reported_of-more previous now own k ∙ ap (λ (b : Bool). reported_of previous now own k ++ cond b (change_of previous now k ∷ []) []) fails ∙ append-nil (reported_of previous now own k))

pub own_unreported : (previous now : List ℕ) (own k : ℕ) → k ≡ own → reported_of previous now own k ≡ reported_of previous now own (k + 1)
own_unreported previous now own k e = none_reported previous now own k (rw (eq-eqb k own e) refl)

pub same_unreported : (previous now : List ℕ) (own k : ℕ) → field now k - field previous k ≤ 0 → reported_of previous now own k ≡ reported_of previous now own (k + 1)
same_unreported previous now own k le = none_reported previous now own k (rw (le-ltb 0 (field now k - field previous k) le) (and_right (not (eqb k own)) false refl))
