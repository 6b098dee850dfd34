-- The payloads of a burst, gone through one by one.
use Rattle.std.proofs.Common.{◌≡◌, ℕ, ◌+◌, ◌<◌, true, ltb, List, [], ◌∷◌, ◌++◌, length, take, get_or, sym, ap, subst, ◌∙◌}
use Rattle.std.specs.List.{concat}
use Rattle.std.proofs.lemmas.Bool.{and_from, and_parts}
use Rattle.std.proofs.lemmas.List.{append-nil, take_more}
use Rattle.std.proofs.lemmas.List.Folds.{concat-append}
use Rattle.cb_schedules.specs.Schedule.{are_bytes}

both_are_bytes : (front back : List ℕ) → are_bytes front ≡ true → are_bytes back ≡ true → are_bytes (front ++ back) ≡ true
both_are_bytes [] back is also = also
both_are_bytes (b ∷ front) back is also =
    let parts = and_parts (ltb b 256) (are_bytes front) is in
    and_from (ltb b 256) (are_bytes (front ++ back)) parts.0 (both_are_bytes front back parts.1 also)

module _ (payloads : List (List ℕ)) (i : ℕ) (p : List ℕ) (lt : i < length payloads) (is : p ≡ get_or payloads i p) where
  first_ones : take (i + 1) payloads ≡ take i payloads ++ p ∷ []
  first_ones = take_more payloads i p lt ∙ ap (λ (q : List ℕ). take i payloads ++ q ∷ []) (sym is)

  pub payload_more : (before after : List (List ℕ)) → before ≡ take i payloads → after ≡ before ++ p ∷ [] → after ≡ take (i + 1) payloads
  payload_more before after so_far pushed = pushed ∙ ap (λ (ps : List (List ℕ)). ps ++ p ∷ []) so_far ∙ sym first_ones

  pub bytes_more : are_bytes (concat (take i payloads)) ≡ true → are_bytes p ≡ true → are_bytes (concat (take (i + 1) payloads)) ≡ true
  bytes_more so_far also =
      let all : concat (take (i + 1) payloads) ≡ concat (take i payloads) ++ p =
      ap concat first_ones ∙ concat-append (take i payloads) (p ∷ []) ∙ ap (λ (bytes : List ℕ). concat (take i payloads) ++ bytes) (append-nil p) in
      subst (λ (bytes : List ℕ). are_bytes bytes ≡ true) (sym all) (both_are_bytes (concat (take i payloads)) p so_far also)
