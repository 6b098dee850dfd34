-- The pieces of a time, each in front of those behind it.
use Rattle.std.proofs.Common.{◌≡◌, ℕ, ◌+◌, ◌<◌, ◌≤◌, List, [], ◌∷◌, ◌++◌, length, drop, refl, sym, ap, ◌∙◌, arith, append_assoc, map}
use Rattle.std.specs.Prelude.{slice_index, codes}
use Rattle.std.specs.List.{join_with_byte}
use Rattle.std.specs.Fmt.{decimal}
use Rattle.std.proofs.lemmas.List.{append-nil, drop_all, length-append, length-drop, drop_more}
use Rattle.confer_text.specs.Texts.{Precedes}

-- a piece in front of a text
pub put_more : (old mid new : List ℕ) (end next start : ℕ) (text piece : List ℕ) → Precedes old end mid next text → Precedes mid next new start piece
    → Precedes old end new start (piece ++ text)
put_more old mid new end next start text piece p q = record {
  room = omega (arith, p.room, q.room, length-append piece text);
  written = q.written ∙ ap (λ (t : List ℕ). piece ++ t) p.written ∙ sym (append_assoc piece text (drop end old));
}

-- a text that nothing stands behind
pub whole : (old : List ℕ) (end : ℕ) (new : List ℕ) (start : ℕ) (text : List ℕ) → length old ≤ end → Precedes old end new start text → drop start new ≡ text
whole old end new start text all p = p.written ∙ ap (λ (t : List ℕ). text ++ t) (drop_all end old all) ∙ append-nil text

-- the fields from a place on, and a bracket
pub fields_from : List ℕ → ℕ → List ℕ
fields_from fields k = join_with_byte 44 (map decimal (drop k fields)) ++ codes "]"

join-one : (x : List ℕ) (xs : List ℕ) → length xs ≡ 0 → join_with_byte 44 (x ∷ map decimal xs) ≡ x
join-one x [] e = refl
join-one x (y ∷ ys) e = absurd (omega (arith, e))

join-more : (x : List ℕ) (xs : List ℕ) → 0 < length xs → join_with_byte 44 (x ∷ map decimal xs) ≡ x ++ (44 ∷ join_with_byte 44 (map decimal xs))
join-more x [] lt = absurd (omega arith)
join-more x (y ∷ ys) lt = refl

at : (fields : List ℕ) (k : ℕ) → k < length fields → map decimal (drop k fields) ≡ decimal (slice_index fields k) ∷ map decimal (drop (k + 1) fields)
at fields k lt = ap (map decimal) (drop_more fields k 0 lt)

pub last_field : (fields : List ℕ) (k : ℕ) → length fields ≡ k + 1 → fields_from fields k ≡ decimal (slice_index fields k) ++ codes "]"
unfolding fields_from
last_field fields k e =
    ap (λ (t : List ℕ). t ++ codes "]") (ap (join_with_byte 44) (at fields k (omega arith))
    ∙ join-one (decimal (slice_index fields k)) (drop (k + 1) fields) (omega (arith, length-drop (k + 1) fields)))

pub next_field : (fields : List ℕ) (k : ℕ) → k + 1 < length fields
    → fields_from fields k ≡ decimal (slice_index fields k) ++ ((44 ∷ []) ++ fields_from fields (k + 1))
unfolding fields_from
next_field fields k lt =
    ap (λ (t : List ℕ). t ++ codes "]") (ap (join_with_byte 44) (at fields k (omega arith))
    ∙ join-more (decimal (slice_index fields k)) (drop (k + 1) fields) (omega (arith, length-drop (k + 1) fields)))
    ∙ append_assoc (decimal (slice_index fields k)) (44 ∷ join_with_byte 44 (map decimal (drop (k + 1) fields))) (codes "]")

pub all_fields : (fields : List ℕ) → fields_from fields 0 ≡ join_with_byte 44 (map decimal fields) ++ codes "]"
unfolding fields_from
all_fields fields = refl
