-- Elements of lists, and what is so of all of them.
use Rattle.std.proofs.Common.{◌≡◌, ℕ, zero, suc, Bool, true, List, [], ◌∷◌, ◌++◌, map, take, drop, Some, refl, sym, ap, subst, ◌∙◌, inl, inr}
use Rattle.std.specs.Prelude.{slice_get}
use Rattle.std.specs.List.{AllByRecursion, flat_map, list_any}
use Rattle.std.proofs.lemmas.Bool.{or_cases}
use Rattle.cb_history.proofs.Views.{IsIn, or_left, or_right}
use Rattle.cb_history.proofs.Lists.{in_append, in_front, in_back}

-- ---- all

pub all_from : {A : Type 0} (P : A → Type 0) (xs : List A) → ((a : A) → IsIn a xs → P a) → AllByRecursion P xs
all_from P [] each = tt
all_from P (x ∷ xs) each = (each x (inl refl), all_from P xs (λ a later. each a (inr later)))

pub all_weaken : {A : Type 0} (P Q : A → Type 0) (xs : List A) → ((a : A) → P a → Q a) → AllByRecursion P xs → AllByRecursion Q xs
all_weaken P Q [] weaker all = tt
all_weaken P Q (x ∷ xs) weaker all = (weaker x all.0, all_weaken P Q xs weaker all.1)

pub all_one_more : {A : Type 0} (P : A → Type 0) (xs : List A) (x : A) → AllByRecursion P xs → P x → AllByRecursion P (xs ++ x ∷ [])
all_one_more P [] x all one = (one, tt)
all_one_more P (y ∷ xs) x all one = (all.0, all_one_more P xs x all.1 one)

pub all_both : {A : Type 0} (P : A → Type 0) (xs ys : List A) → AllByRecursion P xs → AllByRecursion P ys → AllByRecursion P (xs ++ ys)
all_both P [] ys first rest = rest
all_both P (x ∷ xs) ys first rest = (first.0, all_both P xs ys first.1 rest)

pub all_map : {A B : Type 0} (P : B → Type 0) (g : A → B) (xs : List A) → ((a : A) → IsIn a xs → P (g a)) → AllByRecursion P (map g xs)
all_map P g [] each = tt
all_map P g (x ∷ xs) each = (each x (inl refl), all_map P g xs (λ a later. each a (inr later)))

pub all_flat : {A B : Type 0} (P : B → Type 0) (g : A → List B) (xs : List A) → ((a : A) → IsIn a xs → AllByRecursion P (g a)) → AllByRecursion P (flat_map g xs)
all_flat P g [] each = tt
all_flat P g (x ∷ xs) each = all_both P (g x) (flat_map g xs) (each x (inl refl)) (all_flat P g xs (λ a later. each a (inr later)))

pub all_at_index : {A : Type 0} (P : A → Type 0) (xs : List A) (n : ℕ) (x : A) → AllByRecursion P xs → slice_get xs n ≡ Some x → P x
all_at_index P [] n x all e = absurd cc
all_at_index {A} P (y ∷ xs) zero x all e = let same : y ≡ x = cc in subst P same all.0
all_at_index P (y ∷ xs) (suc n) x all e = all_at_index P xs n x all.1 e

-- ---- elements

pub index_of : {A : Type 0} (xs : List A) (a : A) → IsIn a xs → (n : ℕ) × (slice_get xs n ≡ Some a)
index_of [] a there = absurd there
index_of (x ∷ xs) a (inl same) = (0, ap Some (sym same))
index_of (x ∷ xs) a (inr later) = let (n, e) = index_of xs a later in (suc n, e)

pub in_take : {A : Type 0} (n : ℕ) (xs : List A) (a : A) → IsIn a (take n xs) → IsIn a xs
in_take zero xs a there = absurd there
in_take (suc n) [] a there = absurd there
in_take (suc n) (x ∷ xs) a (inl same) = inl same
in_take (suc n) (x ∷ xs) a (inr later) = inr (in_take n xs a later)

pub in_drop : {A : Type 0} (n : ℕ) (xs : List A) (a : A) → IsIn a (drop n xs) → IsIn a xs
in_drop zero xs a there = there
in_drop (suc n) [] a there = absurd there
in_drop (suc n) (x ∷ xs) a there = inr (in_drop n xs a there)

pub in_by_index : {A : Type 0} (xs : List A) (n : ℕ) (x : A) → slice_get xs n ≡ Some x → IsIn x xs
in_by_index [] n x e = absurd cc
in_by_index (y ∷ xs) zero x e = inl cc
in_by_index (y ∷ xs) (suc n) x e = inr (in_by_index xs n x e)

pub in_map : {A B : Type 0} (g : A → B) (xs : List A) (x : A) → IsIn x xs → IsIn (g x) (map g xs)
in_map g [] x there = absurd there
in_map g (y ∷ xs) x (inl same) = inl (ap g same)
in_map g (y ∷ xs) x (inr later) = inr (in_map g xs x later)

pub in_flat : {A B : Type 0} (g : A → List B) (xs : List A) (x : A) (b : B) → IsIn x xs → IsIn b (g x) → IsIn b (flat_map g xs)
in_flat g [] x b there here = absurd there
in_flat g (y ∷ xs) x b (inl same) here = in_front b (g y) (flat_map g xs) (subst (λ z. IsIn b (g z)) same here)
in_flat g (y ∷ xs) x b (inr later) here = in_back b (g y) (flat_map g xs) (in_flat g xs x b later here)

pub flat_in : {A B : Type 0} (g : A → List B) (xs : List A) (b : B) → IsIn b (flat_map g xs) → (x : A) × IsIn x xs × IsIn b (g x)
flat_in g [] b there = absurd there
flat_in g (x ∷ xs) b there = elim (in_append b (g x) (flat_map g xs) there) [
  | inl here ↦ (x, inl refl, here)
  | inr later ↦ let (found, at, has) = flat_in g xs b later in (found, inr at, has)
]

-- some element passes a test
pub any_in : {A : Type 0} (p : A → Bool) (xs : List A) → list_any p xs ≡ true → (a : A) × IsIn a xs × (p a ≡ true)
any_in p [] some = absurd cc
any_in p (x ∷ xs) some = elim (or_cases (p x) (list_any p xs) some) [
  | inl here ↦ (x, inl refl, here)
  | inr later ↦ let (a, there, passes) = any_in p xs later in (a, inr there, passes)
]

pub in_any : {A : Type 0} (p : A → Bool) (xs : List A) (a : A) → IsIn a xs → p a ≡ true → list_any p xs ≡ true
in_any p [] a there passes = absurd there
in_any p (x ∷ xs) a (inl same) passes = or_left (p x) (list_any p xs) (ap p (sym same) ∙ passes)
in_any p (x ∷ xs) a (inr later) passes = or_right (p x) (list_any p xs) (in_any p xs a later passes)
