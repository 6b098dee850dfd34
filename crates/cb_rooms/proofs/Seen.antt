-- Rooms in the order in which they were first seen.
use Rattle.std.proofs.Common.{◌≡◌, ℕ, zero, suc, ◌+◌, Bool, true, false, cond, ◌||◌, not, List, [], ◌∷◌, ◌++◌, length, refl, sym, ap, subst, ◌∙◌, true≢false, arith, Some, filter, slice_get}
use Rattle.std.specs.Prelude.{find, bytes_eq}
use Rattle.std.specs.List.{AllByRecursion, list_any, position_or_len}
use Rattle.std.specs.Cmp.Lexicographic.{bytes_decides}
use Rattle.std.proofs.lemmas.List.Folds.{find_at}
use Rattle.std.proofs.lemmas.List.{append-nil}
use Rattle.std.proofs.lemmas.Option.{none-some}
use Rattle.cb_rooms.specs.View.{each_once}
use Rattle.cb_rooms.proofs.Lists.{Some-injective, or_left, or_right, or_neither, or_first, or_second, or_only}

-- ---- the test of two names of rooms

pub same : (a b : List ℕ) → bytes_eq a b ≡ true → a ≡ b
same a b e = (bytes_decides a b).0 e

pub itself : (a : List ℕ) → bytes_eq a a ≡ true
itself a = (bytes_decides a a).1 refl

not_true : (b : Bool) → (b ≡ true → ⊥) → b ≡ false
not_true true h = absurd (h refl)
not_true false h = refl

pub turned : (a b : List ℕ) → bytes_eq a b ≡ false → bytes_eq b a ≡ false
turned a b e = not_true (bytes_eq b a) (λ t. true≢false (sym ((bytes_decides a b).1 (sym (same b a t))) ∙ e))

-- ---- each once

-- what is not x stays where x goes
any_other : (r x : List ℕ) (ys : List (List ℕ)) → bytes_eq r x ≡ false
    → list_any (bytes_eq r) (filter (λ y. not (bytes_eq x y)) ys) ≡ list_any (bytes_eq r) ys
any_other r x [] apart = refl
any_other r x (y ∷ ys) apart = by (bytes_eq x y) refl (any_other r x ys apart)
  where
    by : (b : Bool) → bytes_eq x y ≡ b → list_any (bytes_eq r) (filter (λ z. not (bytes_eq x z)) ys) ≡ list_any (bytes_eq r) ys
        → list_any (bytes_eq r) (filter (λ z. not (bytes_eq x z)) (y ∷ ys)) ≡ list_any (bytes_eq r) (y ∷ ys)
    by true e rest =
        let apart_y : bytes_eq r y ≡ false = subst (λ (z : List ℕ). bytes_eq r z ≡ false) (same x y e) apart in
        rw (e, apart_y) rest
    by false e rest = rw e (ap (λ b. bytes_eq r y || b) rest)

pub any_once : (r : List ℕ) (xs : List (List ℕ)) → list_any (bytes_eq r) (each_once xs) ≡ list_any (bytes_eq r) xs
any_once r [] = refl
any_once r (x ∷ xs) = by (bytes_eq r x) refl (any_once r xs)
  where
    by : (b : Bool) → bytes_eq r x ≡ b → list_any (bytes_eq r) (each_once xs) ≡ list_any (bytes_eq r) xs
        → list_any (bytes_eq r) (each_once (x ∷ xs)) ≡ list_any (bytes_eq r) (x ∷ xs)
    by true e rest = rw e refl
    by false e rest = rw e (any_other r x (each_once xs) e ∙ rest)

filter-push : (p : List ℕ → Bool) (xs : List (List ℕ)) (y : List ℕ) → filter p (xs ++ y ∷ []) ≡ filter p xs ++ cond (p y) (y ∷ []) []
filter-push p [] y = by (p y)
  where
    by : (b : Bool) → cond b (y ∷ []) [] ≡ cond b (y ∷ []) []
    by b = refl
filter-push p (x ∷ xs) y = by (p x) refl (filter-push p xs y)
  where
    by : (b : Bool) → p x ≡ b → filter p (xs ++ y ∷ []) ≡ filter p xs ++ cond (p y) (y ∷ []) []
        → filter p (x ∷ xs ++ y ∷ []) ≡ filter p (x ∷ xs) ++ cond (p y) (y ∷ []) []
    by true e rest = rw e (ap (λ (l : List (List ℕ)). x ∷ l) rest)
    by false e rest = rw e rest

-- one that was not goes last
pub once_new : (xs : List (List ℕ)) (y : List ℕ) → list_any (bytes_eq y) xs ≡ false → each_once (xs ++ y ∷ []) ≡ each_once xs ++ y ∷ []
once_new [] y none = refl
once_new (x ∷ xs) y none =
    let apart : bytes_eq x y ≡ false = turned y x (or_first _ _ none) in
    let kept : (λ (b : Bool). cond (not b) (y ∷ []) []) (bytes_eq x y) ≡ y ∷ [] = rw apart refl in
    rw (once_new xs y (or_second (bytes_eq y x) _ none)) (ap (λ (l : List (List ℕ)). x ∷ l) (filter-push (λ z. not (bytes_eq x z)) (each_once xs) y ∙ ap (λ (l : List (List ℕ)). filter (λ z. not (bytes_eq x z)) (each_once xs) ++ l) kept))

-- one that was seen adds nothing
pub once_again : (xs : List (List ℕ)) (y : List ℕ) → list_any (bytes_eq y) xs ≡ true → each_once (xs ++ y ∷ []) ≡ each_once xs
once_again [] y some = absurd (true≢false (sym some))
once_again (x ∷ xs) y some = by (list_any (bytes_eq y) xs) refl (once_again xs y) (once_new xs y)
  where
    by : (b : Bool) → list_any (bytes_eq y) xs ≡ b → (list_any (bytes_eq y) xs ≡ true → each_once (xs ++ y ∷ []) ≡ each_once xs)
        → (list_any (bytes_eq y) xs ≡ false → each_once (xs ++ y ∷ []) ≡ each_once xs ++ y ∷ [])
        → each_once (x ∷ xs ++ y ∷ []) ≡ each_once (x ∷ xs)
    by true e again new = rw (again e) refl
    by false e again new =
        let first : bytes_eq y x ≡ true = or_only (bytes_eq y x) _ some e in
        let gone : (λ (b : Bool). cond (not b) (y ∷ []) []) (bytes_eq x y) ≡ [] = rw ((bytes_decides x y).1 (sym (same y x first))) refl in
        ap (λ (l : List (List ℕ)). x ∷ filter (λ z. not (bytes_eq x z)) l) (new e)
        ∙ ap (λ (l : List (List ℕ)). x ∷ l) (filter-push (λ z. not (bytes_eq x z)) (each_once xs) y ∙ ap (λ (l : List (List ℕ)). filter (λ z. not (bytes_eq x z)) (each_once xs) ++ l) gone ∙ append-nil _)

-- ---- no name twice

abbrev pub Once : List (List ℕ) → Type 0
Once [] = Unit {0}
Once (x ∷ xs) = (list_any (bytes_eq x) xs ≡ false) × Once xs

gone_too : (r : List ℕ) (p : List ℕ → Bool) (ys : List (List ℕ)) → list_any (bytes_eq r) ys ≡ false → list_any (bytes_eq r) (filter p ys) ≡ false
gone_too r p [] none = none
gone_too r p (y ∷ ys) none = by (p y) refl (gone_too r p ys (or_second (bytes_eq r y) _ none))
  where
    by : (b : Bool) → p y ≡ b → list_any (bytes_eq r) (filter p ys) ≡ false → list_any (bytes_eq r) (filter p (y ∷ ys)) ≡ false
    by true e rest = rw e (or_neither (bytes_eq r y) _ (or_first (bytes_eq r y) _ none) rest)
    by false e rest = rw e rest

none_alike : (x : List ℕ) (ys : List (List ℕ)) → list_any (bytes_eq x) (filter (λ y. not (bytes_eq x y)) ys) ≡ false
none_alike x [] = refl
none_alike x (y ∷ ys) = by (bytes_eq x y) refl (none_alike x ys)
  where
    by : (b : Bool) → bytes_eq x y ≡ b → list_any (bytes_eq x) (filter (λ z. not (bytes_eq x z)) ys) ≡ false
        → list_any (bytes_eq x) (filter (λ z. not (bytes_eq x z)) (y ∷ ys)) ≡ false
    by true e rest = rw e rest
    by false e rest = rw e (or_neither (bytes_eq x y) _ e rest)

once_filter : (p : List ℕ → Bool) (ys : List (List ℕ)) → Once ys → Once (filter p ys)
once_filter p [] once = tt
once_filter p (y ∷ ys) once = by (p y) refl (once_filter p ys once.1)
  where
    by : (b : Bool) → p y ≡ b → Once (filter p ys) → Once (filter p (y ∷ ys))
    by true e rest = rw e (gone_too y p ys once.0, rest)
    by false e rest = rw e rest

pub once_once : (xs : List (List ℕ)) → Once (each_once xs)
once_once [] = tt
once_once (x ∷ xs) = (none_alike x (each_once xs), once_filter (λ y. not (bytes_eq x y)) (each_once xs) (once_once xs))

-- ---- places

found : (r : List ℕ) (rs : List (List ℕ)) → list_any (bytes_eq r) rs ≡ true → find (bytes_eq r) rs ≡ Some r
found r [] some = absurd (true≢false (sym some))
found r (x ∷ rs) some = by (bytes_eq r x) refl (found r rs)
  where
    by : (b : Bool) → bytes_eq r x ≡ b → (list_any (bytes_eq r) rs ≡ true → find (bytes_eq r) rs ≡ Some r) → find (bytes_eq r) (x ∷ rs) ≡ Some r
    by true e rest = rw e (ap (λ (z : List ℕ). Some z) (sym (same r x e)))
    by false e rest = rw e (rest (rw e at some))

pub found_at : (r : List ℕ) (rs : List (List ℕ)) → list_any (bytes_eq r) rs ≡ true → slice_get rs (position_or_len (bytes_eq r) rs) ≡ Some r
found_at r rs some = sym (find_at (bytes_eq r) rs) ∙ found r rs some

pub any_at : (r : List ℕ) (rs : List (List ℕ)) (k : ℕ) → slice_get rs k ≡ Some r → list_any (bytes_eq r) rs ≡ true
any_at r [] k at = absurd (none-some r at)
any_at r (x ∷ rs) zero at = or_left (bytes_eq r x) _ (subst (λ (z : List ℕ). bytes_eq r z ≡ true) (sym (Some-injective x r at)) (itself r))
any_at r (x ∷ rs) (suc k) at = or_right (bytes_eq r x) _ (any_at r rs k at)

pub apart_at : (x r : List ℕ) (rs : List (List ℕ)) (k : ℕ) → list_any (bytes_eq x) rs ≡ false → slice_get rs k ≡ Some r → bytes_eq x r ≡ false
apart_at x r [] k none at = absurd (none-some r at)
apart_at x r (y ∷ rs) zero none at = subst (λ (z : List ℕ). bytes_eq x z ≡ false) (Some-injective y r at) (or_first (bytes_eq x y) _ none)
apart_at x r (y ∷ rs) (suc k) none at = apart_at x r rs k (or_second (bytes_eq x y) _ none) at

pub apart_all : (x : List ℕ) (rs : List (List ℕ)) → list_any (bytes_eq x) rs ≡ false → AllByRecursion (λ q. bytes_eq q x ≡ false) rs
apart_all x [] none = tt
apart_all x (y ∷ rs) none = (turned x y (or_first (bytes_eq x y) _ none), apart_all x rs (or_second (bytes_eq x y) _ none))

-- a place is the first one where its name stands
pub place_is : (r : List ℕ) (rs : List (List ℕ)) (k : ℕ) → Once rs → slice_get rs k ≡ Some r → position_or_len (bytes_eq r) rs ≡ k
place_is r [] k once at = absurd (none-some r at)
place_is r (x ∷ rs) zero once at =
    let here : bytes_eq r x ≡ true = subst (λ (z : List ℕ). bytes_eq r z ≡ true) (sym (Some-injective x r at)) (itself r) in
    rw here refl
place_is r (x ∷ rs) (suc k) once at =
    let apart : bytes_eq r x ≡ false = turned x r (apart_at x r rs k once.0 at) in
    let rest : position_or_len (bytes_eq r) rs ≡ k = place_is r rs k once.1 at in
    rw apart (omega (arith, rest))

pub place_stays : (r y : List ℕ) (rs : List (List ℕ)) → list_any (bytes_eq r) rs ≡ true → position_or_len (bytes_eq r) (rs ++ y ∷ []) ≡ position_or_len (bytes_eq r) rs
place_stays r y [] some = absurd (true≢false (sym some))
place_stays r y (x ∷ rs) some = by (bytes_eq r x) refl (place_stays r y rs)
  where
    by : (b : Bool) → bytes_eq r x ≡ b → (list_any (bytes_eq r) rs ≡ true → position_or_len (bytes_eq r) (rs ++ y ∷ []) ≡ position_or_len (bytes_eq r) rs)
        → position_or_len (bytes_eq r) (x ∷ rs ++ y ∷ []) ≡ position_or_len (bytes_eq r) (x ∷ rs)
    by true e rest = rw e refl
    by false e rest = rw e (ap (λ n. 1 + n) (rest (rw e at some)))

pub place_of_new : (r : List ℕ) (rs : List (List ℕ)) → list_any (bytes_eq r) rs ≡ false → position_or_len (bytes_eq r) (rs ++ r ∷ []) ≡ length rs
place_of_new r [] none = rw (itself r) refl
place_of_new r (x ∷ rs) none =
    let apart : bytes_eq r x ≡ false = or_first (bytes_eq r x) _ none in
    let rest : position_or_len (bytes_eq r) (rs ++ r ∷ []) ≡ length rs = place_of_new r rs (or_second (bytes_eq r x) _ none) in
    rw apart (omega (arith, rest))
