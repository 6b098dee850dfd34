-- Lists of any kind: first elements, what is mapped, what is kept.
use Rattle.std.proofs.Common.{◌≡◌, Bool, true, false, ◌||◌, List, [], ◌∷◌, ◌++◌, map, refl, sym, ap, ◌∙◌, true≢false, Option, Some, None, filter}
use Rattle.std.specs.Prelude.{find, filter_map, option_map, is_some, unwrap_or, Result, Ok, Err, OnErr}
use Rattle.std.specs.List.{AllByRecursion, cons_option, list_any}
use Rattle.std.specs.Map.{lookup}

pub Some-injective : {A : Type 0} (a b : A) → ◌≡◌ {A = Option A} (Some a) (Some b) → a ≡ b
Some-injective a b e = ap (λ o. unwrap_or o a) e

pub or_left : (a b : Bool) → a ≡ true → (a || b) ≡ true
or_left a b e = rw e refl

pub or_right : (a b : Bool) → b ≡ true → (a || b) ≡ true
or_right true b e = refl
or_right false b e = e

pub or_neither : (a b : Bool) → a ≡ false → b ≡ false → (a || b) ≡ false
or_neither a b e f = rw (e, f) refl

pub or_first : (a b : Bool) → (a || b) ≡ false → a ≡ false
or_first true b e = e
or_first false b e = refl

pub or_second : (a b : Bool) → (a || b) ≡ false → b ≡ false
or_second true b e = absurd (true≢false e)
or_second false b e = e

pub or_only : (a b : Bool) → (a || b) ≡ true → b ≡ false → a ≡ true
or_only true b e f = refl
or_only false b e f = absurd (true≢false (sym e ∙ f))

-- the first element that passes is the first of those that pass another test too, if it does
pub find-filter : {X : Type 0} (q p : X → Bool) (xs : List X) (x : X) → find q xs ≡ Some x → p x ≡ true → find q (filter p xs) ≡ Some x
find-filter q p [] x e h = e
find-filter q p (y ∷ ys) x e h = by (q y) refl (p y) refl (λ found. find-filter q p ys x found h)
  where
    by : (b : Bool) → q y ≡ b → (c : Bool) → p y ≡ c → (find q ys ≡ Some x → find q (filter p ys) ≡ Some x) → find q (filter p (y ∷ ys)) ≡ Some x
    by true qy true py rest = rw (py, qy) (rw qy at e)
    by true qy false py rest =
        let same : y ≡ x = Some-injective y x (rw qy at e) in
        absurd (true≢false (sym h ∙ ap p (sym same) ∙ py))
    by false qy true py rest = rw (py, qy) (rest (rw qy at e))
    by false qy false py rest = rw py (rest (rw qy at e))

pub filter_map-map : {X Y Z : Type 0} (h : Y → Option Z) (f : X → Y) (xs : List X) → filter_map h (map f xs) ≡ filter_map (λ x. h (f x)) xs
filter_map-map h f [] = refl
filter_map-map h f (x ∷ xs) = ap (cons_option (h (f x))) (filter_map-map h f xs)

-- where each element is given back
pub filter_map_all : {X : Type 0} (h : X → Option X) (xs : List X) → AllByRecursion (λ x. h x ≡ Some x) xs → filter_map h xs ≡ xs
filter_map_all h [] all = refl
filter_map_all h (x ∷ xs) all = rw (all.0, filter_map_all h xs all.1) refl

pub map_alike : {X Y : Type 0} (f g : X → Y) (xs : List X) → AllByRecursion (λ x. f x ≡ g x) xs → map f xs ≡ map g xs
map_alike f g [] all = refl
map_alike f g (x ∷ xs) all = rw (all.0, map_alike f g xs all.1) refl

pub all_also : {X : Type 0} (P Q R : X → Type 0) → ((x : X) → P x → Q x → R x) → (xs : List X) → AllByRecursion P xs → AllByRecursion Q xs → AllByRecursion R xs
all_also P Q R step [] p q = tt
all_also P Q R step (x ∷ xs) p q = (step x p.0 q.0, all_also P Q R step xs p.1 q.1)

pub all_so : {X : Type 0} (P Q : X → Type 0) → ((x : X) → P x → Q x) → (xs : List X) → AllByRecursion P xs → AllByRecursion Q xs
all_so P Q step [] p = tt
all_so P Q step (x ∷ xs) p = (step x p.0, all_so P Q step xs p.1)

pub all_push : {X : Type 0} (P : X → Type 0) (xs : List X) (x : X) → AllByRecursion P xs → P x → AllByRecursion P (xs ++ x ∷ [])
all_push P [] x all p = (p, tt)
all_push P (y ∷ ys) x all p = (all.0, all_push P ys x all.1 p)

-- what a look-up finds is what the first element that passes gives
pub lookup-map : {K V X : Type 0} (test : K → Bool) (k : X → K) (v : X → V) (xs : List X)
    → lookup test (map (λ x. (k x, v x)) xs) ≡ option_map v (find (λ x. test (k x)) xs)
lookup-map test k v [] = refl
lookup-map test k v (x ∷ xs) = by (test (k x)) refl (lookup-map test k v xs)
  where
    by : (b : Bool) → test (k x) ≡ b → lookup test (map (λ y. (k y, v y)) xs) ≡ option_map v (find (λ y. test (k y)) xs)
        → lookup test (map (λ y. (k y, v y)) (x ∷ xs)) ≡ option_map v (find (λ y. test (k y)) (x ∷ xs))
    by true e rest = rw e refl
    by false e rest = rw e rest

pub is_some-map : {X Y : Type 0} (f : X → Y) (o : Option X) → is_some (option_map f o) ≡ is_some o
is_some-map f None = refl
is_some-map f (Some x) = refl

pub is_none : {X : Type 0} (o : Option X) → is_some o ≡ false → o ≡ None
is_none None e = refl
is_none (Some x) e = absurd (true≢false e)

pub list_any-find : {X : Type 0} (test : X → Bool) (xs : List X) → list_any test xs ≡ is_some (find test xs)
list_any-find test [] = refl
list_any-find test (x ∷ xs) = by (test x) refl (list_any-find test xs)
  where
    by : (b : Bool) → test x ≡ b → list_any test xs ≡ is_some (find test xs) → list_any test (x ∷ xs) ≡ is_some (find test (x ∷ xs))
    by true e rest = rw e refl
    by false e rest = rw e rest

pub list_any-map : {X Y : Type 0} (test : Y → Bool) (f : X → Y) (xs : List X) → list_any test (map f xs) ≡ list_any (λ x. test (f x)) xs
list_any-map test f [] = refl
list_any-map test f (x ∷ xs) = ap (λ b. test (f x) || b) (list_any-map test f xs)

pub on_err_of : {T E : Type 0} (r : Result T E) (X : Type 0) → X → OnErr r X
on_err_of (Ok x) X h = tt
on_err_of (Err e) X h = h
