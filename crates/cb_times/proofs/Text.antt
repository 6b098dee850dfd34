-- The text of a time, as it is written field by field.
use Rattle.std.proofs.Common.{◌≡◌, ℕ, ◌≤◌, List, [], ◌∷◌, ◌++◌, map, ap, sym, length, take, append_assoc}
use Rattle.std.specs.Fmt.{decimal}
use Rattle.std.specs.List.{join_with_byte, flat_map}
use Rattle.std.proofs.lemmas.List.{append-nil, take_all}
use Rattle.cb_times.specs.Time.{text_of}

-- the first field, and then each other one after a comma
join_with_byte-fields : (x : ℕ) (xs : List ℕ)
    → join_with_byte 44 (map decimal (x ∷ xs)) ≡ decimal x ++ flat_map (λ y. 44 ∷ decimal y) xs
join_with_byte-fields x [] = sym (append-nil (decimal x))
join_with_byte-fields x (y ∷ ys) = ap (λ rest. decimal x ++ (44 ∷ rest)) (join_with_byte-fields y ys)

-- once n fields after the first are written, and there are no more, the bracket ends the text
pub text_of-fields : (x n : ℕ) (xs time : List ℕ) → time ≡ x ∷ xs → length xs ≤ n
    → (91 ∷ decimal x) ++ (flat_map (λ y. 44 ∷ decimal y) (take n xs) ++ 93 ∷ []) ≡ text_of time
text_of-fields x n xs time first last =
    rw (first, take_all n xs last, join_with_byte-fields x xs)
    (sym (ap (λ rest. 91 ∷ rest) (append_assoc (decimal x) (flat_map (λ y. 44 ∷ decimal y) xs) (93 ∷ []))))
