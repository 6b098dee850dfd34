-- A list over the front of another, as it grows.
use Rattle.std.proofs.Common.{◌≡◌, ℕ, ◌+◌, ◌<◌, ◌≤◌, List, [], ◌∷◌, ◌++◌, length, map, take, drop, get_or, sym, ap, ◌∙◌, subst, arith, length-append, append_assoc, append-nil}
use Rattle.std.specs.List.{flat_map}
use lib.ListN.{set}
use Rattle.std.proofs.lemmas.List.{take_at, drop_at, drop-drop, set_at, drop_more, take_more, map_more, drop_all, take-map, length-map, length-take-le}
use Rattle.std.proofs.lemmas.List.Concat.{flat_map-append}
use Rattle.cb_handle.specs.Copies.{placed, copied}

-- what is copied behind it joins it
pub placed_with : {X : Type 0} (xs ys old : List X) (n : ℕ) → length xs ≡ n
    → (take n (placed xs old) ++ ys) ++ drop (n + length ys) (placed xs old) ≡ placed (xs ++ ys) old
placed_with xs ys old n e =
    let front : take n (placed xs old) ≡ xs = take_at xs (drop (length xs) old) n e in
    let rest : drop (n + length ys) (placed xs old) ≡ drop (length (xs ++ ys)) old =
    sym (drop-drop (length ys) n (placed xs old)) ∙ (ap (drop (length ys)) (drop_at xs (drop (length xs) old) n e)
    ∙ (drop-drop (length ys) (length xs) old ∙ ap (λ k. drop k old) (sym (length-append xs ys)))) in
    λ i. (front i ++ ys) ++ rest i

-- and so does what is set behind it
pub placed_set : {X : Type 0} (xs old : List X) (n : ℕ) (y : X) → length xs ≡ n → n < length old
    → set (placed xs old) n y ≡ placed (xs ++ y ∷ []) old
placed_set xs old n y e h =
    let within : length xs < length old = subst (λ k. k < length old) (sym e) h in
    let rest : List _ = drop (length xs + 1) old in
    ap (λ zs. set (xs ++ zs) n y) (drop_more old (length xs) y within)
    ∙ (set_at xs (get_or old (length xs) y) rest y n e
    ∙ (sym (append_assoc xs (y ∷ []) rest) ∙ ap (λ k. (xs ++ y ∷ []) ++ drop k old) (sym (length-append xs (y ∷ [])))))

-- the heads of one more
pub heads_more : {X H : Type 0} (f : X → H) (xs : List X) (heads old : List H) (n : ℕ) (x : X)
    → n < length xs → x ≡ get_or xs n x → n < length old → heads ≡ placed (map f (take n xs)) old
    → set heads n (f x) ≡ placed (map f (take (n + 1) xs)) old
heads_more f xs heads old n x h is_x room e =
    let many : length (map f (take n xs)) ≡ n = length-map (take n xs) f ∙ length-take-le n xs (omega (arith, h)) in
    ap (λ zs. set zs n (f x)) e ∙ (placed_set (map f (take n xs)) old n (f x) many room
    ∙ ap (λ zs. placed zs old) (ap (λ y. map f (take n xs) ++ f y ∷ []) is_x ∙ sym (map_more f xs n x h)))

-- the parts of one more
pub flat_more : {X A : Type 0} (f : X → List A) (xs : List X) (n : ℕ) (x : X) → n < length xs → x ≡ get_or xs n x
    → flat_map f (take (n + 1) xs) ≡ flat_map f (take n xs) ++ f x
flat_more f xs n x h is_x =
    ap (flat_map f) (take_more xs n x h) ∙ (flat_map-append f (take n xs) (get_or xs n x ∷ [])
    ∙ ap (λ zs. flat_map f (take n xs) ++ zs) (append-nil (f (get_or xs n x)) ∙ sym (ap f is_x)))

pub end_more : {X A : Type 0} (f : X → List A) (xs : List X) (n end : ℕ) (x : X) → n < length xs → x ≡ get_or xs n x
    → end ≡ length (flat_map f (take n xs)) → end + length (f x) ≡ length (flat_map f (take (n + 1) xs))
end_more f xs n end x h is_x e =
    ap (λ k. k + length (f x)) e ∙ (sym (length-append (flat_map f (take n xs)) (f x)) ∙ ap length (sym (flat_more f xs n x h is_x)))

pub parts_more : {X A : Type 0} (f : X → List A) (xs : List X) (parts old : List A) (n end : ℕ) (x : X)
    → n < length xs → x ≡ get_or xs n x → end ≡ length (flat_map f (take n xs)) → parts ≡ placed (flat_map f (take n xs)) old
    → (take end parts ++ f x) ++ drop (end + length (f x)) parts ≡ placed (flat_map f (take (n + 1) xs)) old
parts_more f xs parts old n end x h is_x e is_placed =
    ap (λ zs. (take end zs ++ f x) ++ drop (end + length (f x)) zs) is_placed
    ∙ (placed_with (flat_map f (take n xs)) (f x) old end (sym e) ∙ ap (λ zs. placed zs old) (sym (flat_more f xs n x h is_x)))

-- so many are shown, one for one
pub record RowsShown {X H : Type 0} (f : X → H) (xs : List X) (old new : List H) (count : ℕ) : Type 0 where
  pub fit : count ≤ length old
  pub rows_are : new ≡ placed (map f (take count xs)) old

-- as many as fit
pub rows_that_fit : {X H : Type 0} (f : X → H) (xs : List X) (old new : List H) (count : ℕ) → RowsShown f xs old new count
    → count ≡ length old → count ≤ length xs → new ≡ copied (map f xs) old
rows_that_fit f xs old new count shown full few =
    let front : map f (take count xs) ≡ take (length old) (map f xs) = sym (take-map f count xs) ∙ ap (λ k. take k (map f xs)) full in
    let many : length (map f (take count xs)) ≡ count = length-map (take count xs) f ∙ length-take-le count xs few in
    let none : drop (length (map f (take count xs))) old ≡ [] = drop_all (length (map f (take count xs))) old (omega (arith, many, full)) in
    let none_there : drop (length (map f xs)) old ≡ [] = drop_all (length (map f xs)) old (omega (arith, length-map xs f, full, few)) in
    shown.rows_are ∙ (λ i. front i ++ (none ∙ sym none_there) i)

pub one_row_more : {X H : Type 0} (f : X → H) (xs : List X) (old new : List H) (count : ℕ) (x : X) → RowsShown f xs old new count
    → count < length xs → x ≡ get_or xs count x → count < length old → RowsShown f xs old (set new count (f x)) (count + 1)
one_row_more f xs old new count x shown h is_x room = record {
  fit = omega (arith, room);
  rows_are = heads_more f xs new old count x h is_x room shown.rows_are;
}
