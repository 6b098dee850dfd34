-- Steps of the loops for the greatest and the least of numbers.
use Rattle.std.proofs.Common.{◌≡◌, ℕ, ◌+◌, ◌-◌, ◌<◌, Bool, true, false, List, [], ◌∷◌, ◌++◌, map, Option, Some, None, refl, sym, ap, ◌∙◌, arith, min, max}
use Rattle.std.specs.List.{filter, range_with_len, flat_map}
use Rattle.std.proofs.lemmas.List.{append_assoc}
use Rattle.cb_history.specs.Known.{greatest_of, least_of}
use Rattle.cb_reference.specs.Facts.{lesser_of}
use Rattle.cb_reference.proofs.Walks.{range_more, row_more}
use Rattle.cb_history.proofs.Rising.{greatest_append}

-- the next part of what the numbers are found in
pub greatest_more : {A : Type 0} (h : A → List ℕ) (best n : ℕ) (x : A) (xs : List A) → n ≡ greatest_of (h x) → max (max best n) (greatest_of (flat_map h xs)) ≡ max best (greatest_of (flat_map h (x ∷ xs)))
greatest_more h best n x xs e =
    let parts = greatest_append (h x) (flat_map h xs) in
    omega (arith, e, parts)

-- the least of the numbers so far and those to come
abbrev pub least_with : Option ℕ → List ℕ → ℕ
least_with None ns = least_of ns
least_with (Some n) ns = least_of (n ∷ ns)

least_of_more : (m n : ℕ) (ns : List ℕ) → least_of (min m n ∷ ns) ≡ least_of (m ∷ n ∷ ns)
least_of_more m n [] = refl
least_of_more m n (k ∷ ns) = omega arith

least_with_more : (least : Option ℕ) (n : ℕ) (ns : List ℕ) → least_with (Some (lesser_of least n)) ns ≡ least_with least (n ∷ ns)
least_with_more None n ns = refl
least_with_more (Some m) n ns = least_of_more m n ns

-- one more number that counts, and one that does not
pub least_more : (f : ℕ → ℕ) (p : ℕ → Bool) (least : Option ℕ) (n i : ℕ) → i < n → p i ≡ true
    → least_with (Some (lesser_of least (f i))) (map f (filter p (range_with_len (i + 1) (n - (i + 1))))) ≡ least_with least (map f (filter p (range_with_len i (n - i))))
least_more f p least n i lt holds = rw (row_more n i lt, holds) (least_with_more least (f i) (map f (filter p (range_with_len (i + 1) (n - (i + 1))))))

pub least_same : (f : ℕ → ℕ) (p : ℕ → Bool) (least : Option ℕ) (n i : ℕ) → i < n → p i ≡ false
    → least_with least (map f (filter p (range_with_len (i + 1) (n - (i + 1))))) ≡ least_with least (map f (filter p (range_with_len i (n - i))))
least_same f p least n i lt fails = rw (row_more n i lt, fails) refl

-- ---- a filter over numbers in a row

pub kept_more : (p : ℕ → Bool) (a n i : ℕ) (items new whole : List ℕ) → i < n → p (i + a) ≡ true → new ≡ items ++ (i + a) ∷ [] → items ++ filter p (range_with_len (i + a) (n - i)) ≡ whole
    → new ++ filter p (range_with_len ((i + 1) + a) (n - (i + 1))) ≡ whole
kept_more p a n i items new whole lt holds pushed h =
    let e : filter p (range_with_len (i + a) (n - i)) ≡ (i + a) ∷ filter p (range_with_len ((i + 1) + a) (n - (i + 1))) = rw (range_more a n i lt, holds) refl in
    rw pushed (append_assoc items ((i + a) ∷ []) (filter p (range_with_len ((i + 1) + a) (n - (i + 1)))) ∙ ap (λ (ns : List ℕ). items ++ ns) (sym e) ∙ h)

pub left_more : (p : ℕ → Bool) (a n i : ℕ) (items new whole : List ℕ) → i < n → p (i + a) ≡ false → new ≡ items → items ++ filter p (range_with_len (i + a) (n - i)) ≡ whole
    → new ++ filter p (range_with_len ((i + 1) + a) (n - (i + 1))) ≡ whole
left_more p a n i items new whole lt fails same h =
    let e : filter p (range_with_len (i + a) (n - i)) ≡ filter p (range_with_len ((i + 1) + a) (n - (i + 1))) = rw (range_more a n i lt, fails) refl in
    rw same (ap (λ (ns : List ℕ). items ++ ns) (sym e) ∙ h)
