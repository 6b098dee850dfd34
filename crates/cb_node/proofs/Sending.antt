-- Lists of frames that are sent one behind the other, counted.
use Rattle.std.proofs.Common.{◌≡◌, ◌+◌, ◌<◌, ℕ, List, ◌∷◌, length, drop, get_or, sym, ap, ◌∙◌, arith}
use Rattle.std.specs.List.{flat_map}
use Rattle.std.proofs.lemmas.List.{drop_more, length-append}
use Rattle.cb_history.specs.declared.answer.Outgoing.{Outgoing}
use Rattle.cb_links.specs.Counts.{held}

count_more : (y z u m n : ℕ) → z ≡ held (y + u) → u ≡ held m → held (z + n) ≡ held (y + (m + n))
count_more y z u m n after offered = omega (arith, after, offered)

-- what is left to be counted, with one list fewer
pub sent_more : {X : Type 0} (f : X → List Outgoing) (post : List X) (x : X) (y z u i all : ℕ) → i < length post → x ≡ get_or post i x → z ≡ held (y + u) → u ≡ held (length (f x))
    → held (y + length (flat_map f (drop i post))) ≡ all → held (z + length (flat_map f (drop (i + 1) post))) ≡ all
sent_more {X} f post x y z u i all within is after offered before =
    let rest = flat_map f (drop (i + 1) post) in
    let parts : drop i post ≡ x ∷ drop (i + 1) post = drop_more post i x within ∙ ap (λ (v : X). v ∷ drop (i + 1) post) (sym is) in
    let lengths : length (flat_map f (drop i post)) ≡ length (f x) + length rest = ap (λ (xs : List X). length (flat_map f xs)) parts ∙ length-append (f x) rest in
    count_more y z u (length (f x)) (length rest) after offered ∙ ap (λ (n : ℕ). held (y + n)) (sym lengths) ∙ before
