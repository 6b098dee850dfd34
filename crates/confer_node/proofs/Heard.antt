-- One member more from whom a frame has come.
use Rattle.std.proofs.Common.{◌≡◌, ◌≢◌, ◌⊎◌, ◌<◌, ◌+◌, ℕ, zero, suc, List, [], ◌∷◌, ◌++◌, Bool, true, false, inl, inr, sym, ◌∙◌, subst, arith}
use Rattle.std.specs.Prelude.{if◌then◌else◌}
use Rattle.std.specs.List.{Contains}
use Rattle.std.proofs.lemmas.Bool.{cases_eq}
use Rattle.std.proofs.lemmas.List.Elements.{Contains-append_cases}
use Rattle.confer_node.specs.Meeting.{IsFrom}

only_one : (x k : ℕ) → Contains (x ∷ []) k → k ≡ x
only_one x k (zero, within, is) = sym is
only_one x k (suc j, within, is) = absurd (omega (arith, within))

-- where there was memory for it
pub heard_more : (xs ys : List ℕ) (x k : ℕ) (pushed : Bool) → ys ≡ (if pushed then xs ++ x ∷ [] else xs) → Contains ys k → Contains xs k ⊎ (k ≡ x)
heard_more xs ys x k false is h = inl (subst (λ (zs : List ℕ). Contains zs k) is h)
heard_more xs ys x k true is h =
    let both = subst (λ (zs : List ℕ). Contains zs k) is h in
    elim (Contains-append_cases xs (x ∷ []) k both) [ inl before ↦ inl before | inr new ↦ inr (only_one x k new) ]

-- and the frame is one of that member
pub heard_from : (xs ys : List ℕ) (x group : ℕ) (bytes : List ℕ) (pushed : Bool) → ys ≡ (if pushed then xs ++ x ∷ [] else xs) → IsFrom group bytes x
    → (k : ℕ) → Contains ys k → Contains xs k ⊎ IsFrom group bytes k
heard_from xs ys x group bytes pushed is from k h =
    elim (heard_more xs ys x k pushed is h) [ inl before ↦ inl before | inr same ↦ inr (subst (IsFrom group bytes) (sym same) from) ]

-- those below a number are heard but for one, and so is that number: then it is so below the next one
pub heard_below : (xs : List ℕ) (me i : ℕ) → ((k : ℕ) → k < i → k ≢ me → Contains xs k) → (i ≡ me) ⊎ Contains xs i
    → (k : ℕ) → k < i + 1 → k ≢ me → Contains xs k
heard_below xs me i below here k within other =
    elim (cases_eq k i) [
      | inl same ↦ elim here [ inl is_me ↦ absurd (other (same ∙ is_me)) | inr heard ↦ subst (λ (j : ℕ). Contains xs j) (sym same) heard ]
      | inr differs ↦ below k (omega arith) other
    ]
