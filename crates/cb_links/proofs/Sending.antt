-- Frames that are offered, one after another.
use Rattle.std.proofs.Common.{◌≡◌, ℕ, ◌+◌, true, false, List, [], ◌∷◌, ◌++◌, drop, append_assoc, Result, Ok, Err, IfErr, OnOk, refl, sym, ap, ◌∙◌, arith}
use Rattle.cb_history.specs.declared.answer.Outgoing.{Outgoing}
use Rattle.cb_links.specs.declared.link.LinkFault.{LinkFault}
use Rattle.cb_links.specs.declared.link.LinkFault.TheVariants as faults
use Rattle.cb_links.specs.declared.link.Unsent.{Unsent}
use Rattle.cb_links.specs.Counts.{held, LinkCounts}
use Rattle.cb_links.specs.Offers.{with_answer, is_for, bytes_for}

one_more : (u : Unsent) (a : Result Unit LinkFault) → (with_answer u a).offered ≡ held (u.offered + 1)
one_more u (Ok taken) = refl
one_more u (Err fault) = refl

-- one more frame was offered
pub offered_more : (u v : Unsent) (a : Result Unit LinkFault) (n : ℕ) → v ≡ with_answer u a → u.offered ≡ held n → v.offered ≡ held (n + 1)
offered_more u v a n is so_far = omega (arith, ap (λ (w : Unsent). w.offered) is, one_more u a, so_far)

-- where no device failed, nothing was counted
pub none_more : (u v : Unsent) (a : Result Unit LinkFault) (first before after : ℕ) → v ≡ with_answer u a → (u.failures ≡ 0 → before ≡ first) → OnOk a (after ≡ before) → IfErr a (λ fault. LinkCounts fault before after) → v.failures ≡ 0 → after ≡ first
none_more u v (Ok taken) first before after is so_far same fault none = same ∙ so_far (sym (ap (λ (w : Unsent). w.failures) is) ∙ none)
none_more u v (Err faults.Device) first before after is so_far same fault none =
    let one : v.failures ≡ held (u.failures + 1) = ap (λ (w : Unsent). w.failures) is in
    absurd (omega (arith, one, none))
none_more u v (Err faults.NoMemory) first before after is so_far same fault none = fault ∙ so_far (sym (ap (λ (w : Unsent). w.failures) is) ∙ none)

-- the frame goes to this member, and its bytes were added
pub goes : (member i : ℕ) (frames : List Outgoing) (f : Outgoing) (all more whole : List (List ℕ)) → drop i frames ≡ f ∷ drop (i + 1) frames → all ++ bytes_for member (drop i frames) ≡ whole → is_for member f.to ≡ true → more ≡ all ++ f.bytes ∷ []
    → more ++ bytes_for member (drop (i + 1) frames) ≡ whole
goes member i frames f all more whole at so_far here added =
    let rest = bytes_for member (drop (i + 1) frames) in
    let next : bytes_for member (f ∷ drop (i + 1) frames) ≡ f.bytes ∷ rest = rw here refl in
    ap (λ (x : List (List ℕ)). x ++ rest) added ∙ append_assoc all (f.bytes ∷ []) rest ∙ ap (λ (x : List (List ℕ)). all ++ x) (sym (ap (bytes_for member) at ∙ next)) ∙ so_far

-- it goes to others
pub passes : (member i : ℕ) (frames : List Outgoing) (f : Outgoing) (all whole : List (List ℕ)) → drop i frames ≡ f ∷ drop (i + 1) frames → all ++ bytes_for member (drop i frames) ≡ whole → is_for member f.to ≡ false
    → all ++ bytes_for member (drop (i + 1) frames) ≡ whole
passes member i frames f all whole at so_far here =
    let rest = bytes_for member (drop (i + 1) frames) in
    let next : bytes_for member (f ∷ drop (i + 1) frames) ≡ rest = rw here refl in
    ap (λ (x : List (List ℕ)). all ++ x) (sym (ap (bytes_for member) at ∙ next)) ∙ so_far
