-- Outcomes of offering a frame to several.
use Rattle.std.proofs.Common.{◌≡◌, ℕ, ◌+◌, ◌≤◌, List, [], ◌∷◌, drop, map, Option, Bool, true, false, ◌||◌, Ok, refl, sym, ap, ◌∙◌, arith}
use Rattle.cb_links.specs.declared.channel.End.{End}
use Rattle.cb_links.specs.declared.link.Offered.{Offered}
use Rattle.cb_links.specs.Counts.{greatest}
use Rattle.cb_links.specs.Ends.{outcome_at}
use Rattle.cb_links.specs.Offers.{at_all, both, outcome_of}

abbrev outcome : ℕ → Bool → Offered
outcome failures refused = record { failures = failures; refused = refused }

same : (m n : ℕ) (a b : Bool) → m ≡ n → a ≡ b → outcome m a ≡ outcome n b
same m n a b failures refused = ap (λ (k : ℕ). outcome k a) failures ∙ ap (λ (c : Bool). outcome n c) refused

or_assoc : (a b c : Bool) → (a || b) || c ≡ a || (b || c)
or_assoc true b c = refl
or_assoc false b c = refl

-- failures are counted up to the greatest value
at_most : (outcomes : List Offered) → (at_all outcomes).failures ≤ greatest
at_most [] = omega arith
at_most (o ∷ outcomes) = omega arith

-- nobody was offered it yet
pub with_none : (outcomes : List Offered) → both (outcome_of (Ok tt)) (at_all outcomes) ≡ at_all outcomes
with_none outcomes = same _ _ _ _ (omega (arith, at_most outcomes)) refl

or_none : (a : Bool) → a || false ≡ a
or_none true = refl
or_none false = refl

-- there is nobody more
pub at_last : (o : Offered) → o.failures ≤ greatest → both o (at_all []) ≡ o
at_last o few = same _ _ _ _ (omega (arith, few)) (or_none o.refused)

both_assoc : (o p q : Offered) → both (both o p) q ≡ both o (both p q)
both_assoc o p q = same _ _ _ _ (omega arith) (or_assoc o.refused p.refused q.refused)

-- it was offered to one more
pub offered_one : (i : ℕ) (ends : List (Option End)) (e : Option End) (o p whole : Offered) → drop i ends ≡ e ∷ drop (i + 1) ends → both o (at_all (map outcome_at (drop i ends))) ≡ whole → p ≡ both o (outcome_at e)
    → both p (at_all (map outcome_at (drop (i + 1) ends))) ≡ whole
offered_one i ends e o p whole at so_far is =
    let rest = at_all (map outcome_at (drop (i + 1) ends)) in
    ap (λ (x : Offered). both x rest) is ∙ both_assoc o (outcome_at e) rest ∙ ap (λ (es : List (Option End)). both o (at_all (map outcome_at es))) (sym at) ∙ so_far
