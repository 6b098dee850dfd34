-- Lists of members of which one is replaced, and lists that are put together of short ones.
use Rattle.std.proofs.Common.{◌≡◌, ◌≢◌, ℕ, zero, suc, ◌<◌, ◌≤◌, ◌⊎◌, inl, inr, Bool, List, [], ◌∷◌, length, set, get_or, take, filter, flat_map, slice_get, Some, sym, ap, subst, ◌∙◌, arith}
use Rattle.std.proofs.lemmas.List.{length-append, length-set, get_or-set_same, get_or-set_other}
use Rattle.std.proofs.lemmas.Option.{slice_get-get_or, slice_get_within, get_or_from_slice_get}
use Rattle.std.proofs.lemmas.Bool.{cases_eq, cond_both}
use Rattle.cb_history.specs.State.{MemberState}

-- an element of a list in which one is replaced is that one, or stands where it stood
pub replaced_at : (ms : List MemberState) (j i : ℕ) (after m : MemberState) → slice_get (set ms j after) i ≡ Some m → ((i ≡ j) × (m ≡ after)) ⊎ ((i ≢ j) × (slice_get ms i ≡ Some m))
replaced_at ms j i after m at =
    let lt : i < length ms = omega (arith, slice_get_within (set ms j after) i m at, length-set ms j after) in
    let is : get_or (set ms j after) i m ≡ m = get_or_from_slice_get (set ms j after) i m m at in
    elim (cases_eq i j) [
      | inl e ↦ inl (e, sym is ∙ ap (λ (k : ℕ). get_or (set ms j after) k m) e ∙ get_or-set_same ms j after m (subst (λ (k : ℕ). k < length ms) e lt))
      | inr ne ↦ inr (ne, slice_get-get_or ms i m lt ∙ ap (λ (x : MemberState). Some x) (sym (get_or-set_other ms j i after m ne) ∙ is))
    ]

module _ {X Y : Type 0} where
  -- lists of at most one element each, put together
  pub short_flat : (f : X → List Y) (xs : List X) → ((x : X) → length (f x) ≤ 1) → length (flat_map f xs) ≤ length xs
  short_flat f [] short = omega arith
  short_flat f (x ∷ xs) short = omega (arith, length-append (f x) (flat_map f xs), short x, short_flat f xs short)

module _ {X : Type 0} where
  -- taking out makes no list longer
  pub short_filter : (p : X → Bool) (xs : List X) → length (filter p xs) ≤ length xs
  short_filter p [] = omega arith
  short_filter p (x ∷ xs) = cond_both (p x) _ _ (λ (ys : List X). length ys ≤ suc (length xs)) (λ _. omega (arith, short_filter p xs)) (λ _. omega (arith, short_filter p xs))

  pub short_take : (n : ℕ) (xs : List X) → length (take n xs) ≤ n
  short_take zero xs = omega arith
  short_take (suc n) [] = omega arith
  short_take (suc n) (x ∷ xs) = omega (arith, short_take n xs)
