-- The bytes of payloads that are gathered.
use Rattle.std.proofs.Common.{◌≡◌, ℕ, ◌+◌, List, [], ◌∷◌, ◌++◌, length, map, ap, ◌∙◌, arith}
use Rattle.std.specs.List.{concat}
use Rattle.std.specs.declared.vec.Vec.{Vec}
use Rattle.std.specs.declared.alloc.Global.{Global}
use Rattle.std.proofs.lemmas.List.{length-append, map-append}
use Rattle.std.proofs.lemmas.List.Folds.{concat-append}

-- one payload more has its bytes more
pub one_more : (ps : List (Vec ℕ Global)) (p : Vec ℕ Global) → length (concat (map (λ q. q.items) (ps ++ p ∷ []))) ≡ length (concat (map (λ q. q.items) ps)) + length p.items
one_more ps p =
    let texts = map (λ (q : Vec ℕ Global). q.items) ps in
    let all = ap (λ (xs : List (List ℕ)). length (concat xs)) (map-append (λ (q : Vec ℕ Global). q.items) ps (p ∷ [])) in
    let both = ap (λ (bytes : List ℕ). length bytes) (concat-append texts (p.items ∷ [])) in
    let sum = length-append (concat texts) (concat (p.items ∷ [])) in
    let last = length-append p.items [] in
    let end : length (concat texts) + length (concat (p.items ∷ [])) ≡ length (concat texts) + length p.items = omega (arith, last) in
    all ∙ both ∙ sum ∙ end
