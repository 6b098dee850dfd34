-- A view has at most as many messages for each fact as a frame can carry.
use Rattle.std.proofs.Common.{◌≡◌, ℕ, zero, suc, ◌+◌, ◌*◌, ◌≤◌, Bool, true, false, List, [], ◌∷◌, ◌++◌, length, Option, Some, None, cond, eqb, refl, ap, subst, append_assoc, arith}
use Rattle.std.proofs.lemmas.List.{append-nil, length-append}
use Rattle.cb_frames.specs.declared.frame.TheConstants.{MOST_MESSAGES}
use Rattle.cb_frames.specs.Fields.{CastFields, Carried, messages_of}
use Rattle.cb_frames.proofs.Carried.{carries_payloads}
use Rattle.cb_history.specs.Facts.{Fact, OwnCast, CastReceived, StatusReceived, OwnStatus, casts_in, messages_in}
use Rattle.cb_history.specs.View.{count, is_among, next_delivery, with_next, drained, seen_from, view}
use Rattle.cb_history.proofs.Loads.{AllFit}
use Rattle.cb_history.proofs.Lists.{messages_in-push}
use Rattle.cb_history.proofs.Views.{left, left_more, left_shrinks, one_unless, unless_more, among_itself, next_is, expanded_is_there, ready_is_new}

-- what was seen, with what is left of the casts' messages, is at most as much as these
abbrev IsWithin : List Carried → List Carried → Type 0
IsWithin ms seen = length seen + left ms seen ≤ length ms

left_append : (ms seen : List Carried) (m : Carried) → left (ms ++ m ∷ []) seen ≡ left ms seen + one_unless (is_among seen m)
left_append [] seen m = omega arith
left_append (x ∷ ms) seen m =
    let others = left_append ms seen m in
    omega (arith, others)

drained_on : (size : ℕ) (casts : List CastFields) (budget : ℕ) (seen : List Carried) (o : Option Carried) → next_delivery size casts seen ≡ o → IsWithin (messages_in casts) seen
    → ((more : List Carried) → IsWithin (messages_in casts) more → IsWithin (messages_in casts) (drained size casts budget more))
    → IsWithin (messages_in casts) (with_next o seen (λ m. drained size casts budget (seen ++ m ∷ [])))
drained_on size casts budget seen None e h go = h
drained_on size casts budget seen (Some m) e h go =
    let next = next_is size casts seen m e in
    let shrinks = left_shrinks (messages_in casts) seen m (expanded_is_there casts m next.1) (ready_is_new size casts seen m next.0) in
    go (seen ++ m ∷ []) (omega (arith, h, shrinks, length-append seen (m ∷ [])))

drained_within : (size : ℕ) (casts : List CastFields) (budget : ℕ) (seen : List Carried) → IsWithin (messages_in casts) seen → IsWithin (messages_in casts) (drained size casts budget seen)
unfolding drained
drained_within size casts zero seen h = h
drained_within size casts (suc budget) seen h = drained_on size casts budget seen (next_delivery size casts seen) refl h (λ more k. drained_within size casts budget more k)

-- with more messages that were seen, and with more that were not
seen_within : (ms seen more : List Carried) → IsWithin ms seen → IsWithin (ms ++ more) (seen ++ more)
seen_within ms seen [] h = rw (append-nil ms, append-nil seen) h
seen_within ms seen (m ∷ more) h =
    let itself : one_unless (is_among (seen ++ m ∷ []) m) ≡ 0 = ap one_unless (among_itself seen m) in
    let one : IsWithin (ms ++ m ∷ []) (seen ++ m ∷ []) =
    omega (arith, h, left_more ms seen m, itself, left_append ms (seen ++ m ∷ []) m, length-append seen (m ∷ []), length-append ms (m ∷ [])) in
    subst (λ (xs : List Carried). IsWithin xs (seen ++ m ∷ more)) (append_assoc ms (m ∷ []) more)
    (subst (IsWithin ((ms ++ m ∷ []) ++ more)) (append_assoc seen (m ∷ []) more) (seen_within (ms ++ m ∷ []) (seen ++ m ∷ []) more one))

unseen_within : (ms seen more : List Carried) → IsWithin ms seen → IsWithin (ms ++ more) seen
unseen_within ms seen [] h = rw (append-nil ms) h
unseen_within ms seen (m ∷ more) h =
    let least : one_unless (is_among seen m) ≤ 1 = unless_more false (is_among seen m) (λ e. absurd cc) in
    let one : IsWithin (ms ++ m ∷ []) seen = omega (arith, h, least, left_append ms seen m, length-append ms (m ∷ [])) in
    subst (λ (xs : List Carried). IsWithin xs seen) (append_assoc ms (m ∷ []) more) (unseen_within (ms ++ m ∷ []) seen more one)

own_within : (casts : List CastFields) (seen : List Carried) (c : CastFields) → IsWithin (messages_in casts) seen → IsWithin (messages_in (casts ++ c ∷ [])) (seen ++ messages_of c)
own_within casts seen c h = rw (messages_in-push casts c) (seen_within (messages_in casts) seen (messages_of c) h)

received_within : (casts : List CastFields) (seen : List Carried) (c : CastFields) → IsWithin (messages_in casts) seen → IsWithin (messages_in (casts ++ c ∷ [])) seen
received_within casts seen c h = rw (messages_in-push casts c) (unseen_within (messages_in casts) seen (messages_of c) h)

seen_from_at_most : (size : ℕ) (casts : List CastFields) (seen : List Carried) (facts : List Fact) → IsWithin (messages_in casts) seen → length (seen_from size casts seen facts) ≤ length (messages_in casts) + length (messages_in (casts_in facts))
seen_from_at_most size casts seen [] h = omega (arith, h)
seen_from_at_most size casts seen (OwnCast c ∷ facts) h =
    let others = seen_from_at_most size (casts ++ c ∷ []) (seen ++ messages_of c) facts (own_within casts seen c h) in
    omega (arith, others, ap (λ (ms : List Carried). length ms) (messages_in-push casts c), length-append (messages_in casts) (messages_of c), length-append (messages_of c) (messages_in (casts_in facts)))
seen_from_at_most size casts seen (CastReceived c ∷ facts) h =
    let all = casts ++ c ∷ [] in
    let others = seen_from_at_most size all (drained size all (length (messages_in all)) seen) facts (drained_within size all (length (messages_in all)) seen (received_within casts seen c h)) in
    omega (arith, others, ap (λ (ms : List Carried). length ms) (messages_in-push casts c), length-append (messages_in casts) (messages_of c), length-append (messages_of c) (messages_in (casts_in facts)))
seen_from_at_most size casts seen (StatusReceived s ∷ facts) h =
    let others = seen_from_at_most size casts seen facts h in
    rw (append-nil casts) (omega (arith, others))
seen_from_at_most size casts seen (OwnStatus s ∷ facts) h =
    let others = seen_from_at_most size casts seen facts h in
    rw (append-nil casts) (omega (arith, others))

-- a view has at most as many messages as the casts carry
view_of_casts : (size : ℕ) (facts : List Fact) → length (view size facts) ≤ length (messages_in (casts_in facts))
unfolding view
view_of_casts size facts = let h = seen_from_at_most size [] [] facts (omega arith) in omega (arith, h)

-- of these at most as many for each fact as a frame can carry, as a fact has one cast at most
carried_at_most : (facts : List Fact) → AllFit (casts_in facts) → length (messages_in (casts_in facts)) ≤ MOST_MESSAGES * length facts
carried_at_most [] fit = omega arith
carried_at_most (OwnCast c ∷ facts) fit = let few = fit.0.few in omega (arith, length-append (messages_of c) (messages_in (casts_in facts)), carries_payloads c, few, carried_at_most facts fit.1)
carried_at_most (CastReceived c ∷ facts) fit = let few = fit.0.few in omega (arith, length-append (messages_of c) (messages_in (casts_in facts)), carries_payloads c, few, carried_at_most facts fit.1)
carried_at_most (StatusReceived s ∷ facts) fit = let others = carried_at_most facts fit in omega (arith, others)
carried_at_most (OwnStatus s ∷ facts) fit = let others = carried_at_most facts fit in omega (arith, others)

pub view_at_most : (size : ℕ) (facts : List Fact) → AllFit (casts_in facts) → length (view size facts) ≤ MOST_MESSAGES * length facts
view_at_most size facts fit = omega (arith, view_of_casts size facts, carried_at_most facts fit)

one_or_none : (b : Bool) → cond b 1 0 ≤ 1
one_or_none true = omega arith
one_or_none false = omega arith

pub count_at_most : (seen : List Carried) (k : ℕ) → count seen k ≤ length seen
count_at_most [] k = omega arith
count_at_most (m ∷ seen) k =
    let others = count_at_most seen k in
    let one = one_or_none (eqb m.sender k) in
    omega (arith, one, others)

pub count_below : (size : ℕ) (facts : List Fact) (k : ℕ) → AllFit (casts_in facts) → count (view size facts) k ≤ MOST_MESSAGES * length facts
count_below size facts k fit = omega (arith, view_at_most size facts fit, count_at_most (view size facts) k)
