-- Steps of the plain program's loops, over plain variables.
use Rattle.std.proofs.Common.{◌≡◌, ℕ, zero, suc, ◌+◌, ◌-◌, ◌<◌, ◌≤◌, Bool, true, false, not, ◌&&◌, List, [], ◌∷◌, ◌++◌, Option, Some, None, refl, sym, ap, ◌∙◌, append_assoc, arith, inl, inr}
use Rattle.std.specs.List.{list_all, list_any, flat_map, range_with_len}
use Rattle.std.proofs.lemmas.Bool.{cases_Bool}
use Rattle.std.proofs.lemmas.Option.{same_Some}
use Rattle.cb_frames.specs.Fields.{CastFields, Carried}
use Rattle.cb_history.specs.View.{lesser_sender, next_delivery, drained}
use Rattle.cb_history.specs.Helping.{first_where}

-- ---- numbers in a row

pub range_more : (a n i : ℕ) → i < n → range_with_len (i + a) (n - i) ≡ (i + a) ∷ range_with_len ((i + 1) + a) (n - (i + 1))
range_more a n i lt =
    let e : n - i ≡ suc (n - (i + 1)) = omega arith in
    let j : (i + 1) + a ≡ (i + a) + 1 = omega arith in
    rw (e, j) refl

pub row_more : (n i : ℕ) → i < n → range_with_len i (n - i) ≡ i ∷ range_with_len (i + 1) (n - (i + 1))
row_more n i lt =
    let e : n - i ≡ suc (n - (i + 1)) = omega arith in
    rw e refl

pub range_end : (a n i : ℕ) → n ≤ i → range_with_len a (n - i) ≡ []
range_end a n i le =
    let e : n - i ≡ 0 = omega arith in
    rw e refl

pub all_more : (p : ℕ → Bool) (a n i : ℕ) → i < n → p (i + a) ≡ true → list_all p (range_with_len ((i + 1) + a) (n - (i + 1))) ≡ list_all p (range_with_len (i + a) (n - i))
all_more p a n i lt holds = rw (range_more a n i lt, holds) refl

pub all_fails : (p : ℕ → Bool) (a n i : ℕ) → i < n → p (i + a) ≡ false → list_all p (range_with_len (i + a) (n - i)) ≡ false
all_fails p a n i lt fails = rw (range_more a n i lt, fails) refl

pub all_end : (p : ℕ → Bool) (a n i : ℕ) → n ≤ i → list_all p (range_with_len a (n - i)) ≡ true
all_end p a n i le = rw (range_end a n i le) refl

pub unless_and : (a among b r : Bool) → a ≡ among → a ≡ false → r ≡ b → r ≡ (not among && b)
unless_and a among b r e new is = rw (← e, new) is

-- ---- the message of the smallest sender

abbrev pub joined : Option Carried → Option Carried → Option Carried
joined None o = o
joined (Some b) o = Some (lesser_sender b o)

-- ---- a drain

pub drained_more : (size : ℕ) (casts : List CastFields) (budget i : ℕ) (seen : List Carried) (m : Carried) → next_delivery size casts seen ≡ Some m → i < budget
    → drained size casts (budget - i) seen ≡ drained size casts (budget - (i + 1)) (seen ++ m ∷ [])
unfolding drained
drained_more size casts budget i seen m e lt =
    let b : budget - i ≡ suc (budget - (i + 1)) = omega arith in
    rw b (rw e refl)

pub drained_end : (size : ℕ) (casts : List CastFields) (budget i : ℕ) (seen : List Carried) → budget ≤ i → drained size casts (budget - i) seen ≡ seen
unfolding drained
drained_end size casts budget i seen le =
    let b : budget - i ≡ 0 = omega arith in
    rw b refl

-- ---- the first number in a row that meets a test

pub any_more : (p : ℕ → Bool) (n i : ℕ) → i < n → p i ≡ false → list_any p (range_with_len (i + 1) (n - (i + 1))) ≡ list_any p (range_with_len i (n - i))
any_more p n i lt fails = rw (row_more n i lt, fails) refl

pub any_holds : (p : ℕ → Bool) (n i : ℕ) → i < n → p i ≡ true → list_any p (range_with_len i (n - i)) ≡ true
any_holds p n i lt holds = rw (row_more n i lt, holds) refl

pub any_end : (p : ℕ → Bool) (a n i : ℕ) → n ≤ i → list_any p (range_with_len a (n - i)) ≡ false
any_end p a n i le = rw (range_end a n i le) refl

pub first_here : (p : ℕ → Bool) (n i : ℕ) → i < n → p i ≡ true → first_where p (range_with_len i (n - i)) ≡ Some i
first_here p n i lt holds = rw (row_more n i lt, holds) refl

pub first_later : (p : ℕ → Bool) (n i : ℕ) → i < n → p i ≡ false → first_where p (range_with_len (i + 1) (n - (i + 1))) ≡ first_where p (range_with_len i (n - i))
first_later p n i lt fails = rw (row_more n i lt, fails) refl

-- it is one of the row
pub first_below : (p : ℕ → Bool) (a n k : ℕ) → first_where p (range_with_len a n) ≡ Some k → k < a + n
first_below p a zero k is = absurd cc
first_below p a (suc n) k is = elim (cases_Bool (p a)) [
  | inl holds ↦ let here : Some a ≡ Some k = sym (rw holds refl) ∙ is in omega (arith, same_Some a k here)
  | inr fails ↦ let later : first_where p (range_with_len (a + 1) n) ≡ Some k = sym (rw fails refl) ∙ is in let below = first_below p (a + 1) n k later in omega (arith, below)
]

-- ---- what is found for one number of a row after another

pub found_more : {A : Type 0} (f : ℕ → List A) (a n i : ℕ) (items new whole : List A) → i < n → new ≡ items ++ f (i + a)
    → items ++ flat_map f (range_with_len (i + a) (n - i)) ≡ whole → new ++ flat_map f (range_with_len ((i + 1) + a) (n - (i + 1))) ≡ whole
found_more {A} f a n i items new whole lt pushed h =
    let others = flat_map f (range_with_len ((i + 1) + a) (n - (i + 1))) in
    let e : flat_map f (range_with_len (i + a) (n - i)) ≡ f (i + a) ++ others = rw (range_more a n i lt) refl in
    rw pushed (append_assoc items (f (i + a)) others ∙ ap (λ (xs : List A). items ++ xs) (sym e) ∙ h)
