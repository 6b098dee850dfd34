-- Lists that grow at their end, and how many of their first elements pass a test.
use Rattle.std.specs.Prelude.{slice_get, count_by}
use Rattle.std.proofs.Common.{◌≡◌, ℕ, zero, suc, ◌+◌, ◌<◌, ◌≤◌, Bool, true, cond, ◌⊎◌, inl, inr, List, [], ◌∷◌, ◌++◌, length, take, map, Some, refl, ap, ◌∙◌, arith, take-take}
use Rattle.std.proofs.lemmas.Bool.{cases_order, cases_Bool}
use Rattle.std.proofs.lemmas.List.{take_all}
use Rattle.std.proofs.lemmas.Option.{slice_get-map}
use Rattle.std.specs.Option.{option_map}
use Rattle.std.proofs.lemmas.List.Sums.{sum_by-cons, sum_by_push, sum_by-take-le}

module _ {X : Type 0} where
  -- what a list has at an index stays when the list grows
  pub get_left : (xs ys : List X) (i : ℕ) → i < length xs → slice_get (xs ++ ys) i ≡ slice_get xs i
  get_left [] ys i h = absurd (omega arith)
  get_left (x ∷ xs) ys zero h = refl
  get_left (x ∷ xs) ys (suc i) h = get_left xs ys i (omega arith)

  -- the new element stands at the end
  pub get_end : (xs : List X) (x : X) → slice_get (xs ++ x ∷ []) (length xs) ≡ Some x
  get_end [] x = refl
  get_end (y ∷ ys) x = get_end ys x

  -- the length of a list with one element more
  pub length_more : (xs : List X) (x : X) → length (xs ++ x ∷ []) ≡ suc (length xs)
  length_more [] x = refl
  length_more (y ∷ ys) x = ap suc (length_more ys x)

  -- what stands in a list with one element more stood there before, or is the new element
  pub get_more : (xs : List X) (x : X) (i : ℕ) (y : X) → slice_get (xs ++ x ∷ []) i ≡ Some y
      → (slice_get xs i ≡ Some y) ⊎ ((i ≡ length xs) × (y ≡ x))
  get_more [] x zero y e = inr (refl, cc)
  get_more [] x (suc i) y e = absurd (cc)
  get_more (z ∷ zs) x zero y e = inl e
  get_more (z ∷ zs) x (suc i) y e =
      elim (get_more zs x i y e) [ inl h ↦ inl h | inr h ↦ inr (ap suc h.0, h.1) ]

  -- an element among the first ones is an element
  pub get_take : (xs : List X) (n i : ℕ) (x : X) → slice_get (take n xs) i ≡ Some x → (i < n) × (slice_get xs i ≡ Some x)
  get_take [] zero i x e = absurd (cc)
  get_take [] (suc n) i x e = absurd (cc)
  get_take (y ∷ ys) zero i x e = absurd (cc)
  get_take (y ∷ ys) (suc n) zero x e = (omega arith, e)
  get_take (y ∷ ys) (suc n) (suc i) x e = let h : (i < n) × (slice_get ys i ≡ Some x) = get_take ys n i x e in (omega arith, h.1)

  -- and below n they agree
  pub get_take_from : (xs : List X) (n i : ℕ) → i < n → slice_get (take n xs) i ≡ slice_get xs i
  get_take_from [] zero i h = refl
  get_take_from [] (suc n) i h = refl
  get_take_from (y ∷ ys) zero i h = absurd (omega arith)
  get_take_from (y ∷ ys) (suc n) zero h = refl
  get_take_from (y ∷ ys) (suc n) (suc i) h = get_take_from ys n i (omega arith)

  -- all elements are the whole list
  pub take_whole : (xs : List X) → take (length xs) xs ≡ xs
  take_whole xs = take_all (length xs) xs (omega arith)

  module _ (test : X → Bool) where
    -- the first element and the rest
    pub count-cons : (x : X) (xs : List X) → count_by test (x ∷ xs) ≡ cond (test x) 1 0 + count_by test xs
    count-cons x xs = sum_by-cons (λ y. cond (test y) 1 0) x xs

    -- one element more
    pub count-more : (xs : List X) (x : X) → count_by test (xs ++ x ∷ []) ≡ count_by test xs + cond (test x) 1 0
    count-more xs x = sum_by_push (λ y. cond (test y) 1 0) xs x

    -- the element at a place counts
    pub count_step : (xs : List X) (i : ℕ) (x : X) → slice_get xs i ≡ Some x
        → count_by test (take (suc i) xs) ≡ count_by test (take i xs) + cond (test x) 1 0
    count_step [] i x e = absurd (cc)
    count_step (y ∷ ys) zero x e =
        let one : y ≡ x = cc in
        let same : ◌≡◌ {A = ℕ} (cond (test y) 1 0) (cond (test x) 1 0) = ap {B = ℕ} (λ (z : X). cond (test z) 1 0) one in omega arith
    count_step (y ∷ ys) (suc i) x e =
        let h : count_by test (take (suc i) ys) ≡ count_by test (take i ys) + cond (test x) 1 0 = count_step ys i x e in
        omega (arith, count-cons y (take (suc i) ys), count-cons y (take i ys))

    -- more of the first elements have no fewer that pass
    pub count_mono : (xs : List X) (i j : ℕ) → i ≤ j → count_by test (take i xs) ≤ count_by test (take j xs)
    count_mono xs i j h = rw (take-take i j xs h) at (sum_by-take-le (λ y. cond (test y) 1 0) (take j xs) i)

    -- where more than t pass, there is one with t before it
    pub count_at : (xs : List X) (t : ℕ) → t < count_by test xs
        → (i : ℕ) × (x : X) × (slice_get xs i ≡ Some x) × (test x ≡ true) × (count_by test (take i xs) ≡ t)
    count_at [] t h = absurd (omega arith)
    count_at (x ∷ xs) zero h =
        elim (cases_Bool (test x)) [
          | inl passes ↦ (0, x, refl, passes, refl)
          | inr fails ↦
              let none : ◌≡◌ {A = ℕ} (cond (test x) 1 0) 0 = ap {B = ℕ} (λ (b : Bool). cond b 1 0) fails in
              let (i, y, at, pass, before) = count_at xs zero (omega (arith, count-cons x xs)) in
              (suc i, y, at, pass, omega (arith, count-cons x (take i xs)))
        ]
    count_at (x ∷ xs) (suc t) h =
        elim (cases_Bool (test x)) [
          | inl passes ↦
              let one : ◌≡◌ {A = ℕ} (cond (test x) 1 0) 1 = ap {B = ℕ} (λ (b : Bool). cond b 1 0) passes in
              let (i, y, at, pass, before) = count_at xs t (omega (arith, count-cons x xs)) in
              (suc i, y, at, pass, omega (arith, count-cons x (take i xs)))
          | inr fails ↦
              let none : ◌≡◌ {A = ℕ} (cond (test x) 1 0) 0 = ap {B = ℕ} (λ (b : Bool). cond b 1 0) fails in
              let (i, y, at, pass, before) = count_at xs (suc t) (omega (arith, count-cons x xs)) in
              (suc i, y, at, pass, omega (arith, count-cons x (take i xs)))
        ]

    -- the same among the first n elements
    pub count_within : (xs : List X) (n t : ℕ) → t < count_by test (take n xs)
        → (i : ℕ) × (x : X) × (i < n) × (slice_get xs i ≡ Some x) × (test x ≡ true) × (count_by test (take i xs) ≡ t)
    count_within xs n t h =
        let (i, x, at, pass, before) = count_at (take n xs) t h in
        let (less, stands) = get_take xs n i x at in
        let shorter : i ≤ n = omega arith in
        (i, x, less, stands, pass, rw (take-take i n xs shorter) at before)

    -- two elements that pass with as many before them are one
    pub count_once : (xs : List X) (i j : ℕ) (x y : X) → slice_get xs i ≡ Some x → slice_get xs j ≡ Some y → test x ≡ true → test y ≡ true
        → count_by test (take i xs) ≡ count_by test (take j xs) → i ≡ j
    count_once xs i j x y at_i at_j pass_x pass_y same =
        let one_x : count_by test (take (suc i) xs) ≡ count_by test (take i xs) + 1 = rw pass_x at (count_step xs i x at_i) in
        let one_y : count_by test (take (suc j) xs) ≡ count_by test (take j xs) + 1 = rw pass_y at (count_step xs j y at_j) in
        elim (cases_order i j) [
          | inl e ↦ e
          | inr (inl less) ↦ absurd (omega (arith, count_mono xs (suc i) j less))
          | inr (inr more) ↦ absurd (omega (arith, count_mono xs (suc j) i more))
        ]

  -- tests that agree on a list count the same
  pub count_same : (p q : X → Bool) (xs : List X) → ((i : ℕ) (x : X) → slice_get xs i ≡ Some x → p x ≡ q x) → count_by p xs ≡ count_by q xs
  count_same p q [] h = refl
  count_same p q (x ∷ xs) h =
      let first : p x ≡ q x = h 0 x refl in
      let rest : count_by p xs ≡ count_by q xs = count_same p q xs (λ i y e. h (suc i) y e) in
      let same : ◌≡◌ {A = ℕ} (cond (p x) 1 0) (cond (q x) 1 0) = ap {B = ℕ} (λ (b : Bool). cond b 1 0) first in
      omega (arith, count-cons p x xs, count-cons q x xs)

-- what a function makes of the elements passes as often as they pass the test after it
pub count-map : {X Y : Type 0} (f : X → Y) (p : Y → Bool) (q : X → Bool) → ((x : X) → p (f x) ≡ q x) → (xs : List X)
    → count_by p (map f xs) ≡ count_by q xs
count-map f p q agree [] = refl
count-map f p q agree (x ∷ xs) =
    let first : ◌≡◌ {A = ℕ} (cond (p (f x)) 1 0) (cond (q x) 1 0) = ap {B = ℕ} (λ (b : Bool). cond b 1 0) (agree x) in
    omega (arith, count-cons p (f x) (map f xs), count-cons q x xs, count-map f p q agree xs)

-- what a function makes of an element stands in the list of what it makes of all
pub get_map : {X Y : Type 0} (f : X → Y) (xs : List X) (i : ℕ) (x : X) → slice_get xs i ≡ Some x → slice_get (map f xs) i ≡ Some (f x)
get_map f xs i x e = slice_get-map f xs i ∙ ap (option_map f) e

-- what stands in the list of what a function makes of the elements, it makes of an element that stands there
pub get_map_from : {X Y : Type 0} (f : X → Y) (xs : List X) (i : ℕ) (y : Y) → slice_get (map f xs) i ≡ Some y
    → (x : X) × (slice_get xs i ≡ Some x) × (f x ≡ y)
get_map_from f [] i y e = absurd (cc)
get_map_from f (x ∷ xs) zero y e = (x, refl, cc)
get_map_from f (x ∷ xs) (suc i) y e = get_map_from f xs i y e
