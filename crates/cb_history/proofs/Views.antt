-- The view, fact by fact, and its deliveries.
use Rattle.std.proofs.Common.{◌≡◌, ℕ, zero, suc, ◌+◌, ◌<◌, ◌≤◌, Bool, true, false, not, cond, ◌&&◌, ◌||◌, eqb, leb, List, [], ◌∷◌, ◌++◌, length, Option, Some, None, refl, sym, ap, subst, ◌∙◌, append_assoc, arith, inl, inr}
use Rattle.std.specs.List.{filter, list_all, range_with_len}
use Rattle.std.proofs.Math.Nat.{eq-or-lt_of_le}
use Rattle.std.proofs.lemmas.Bool.{cond_both, eqb-true, eq-eqb}
use Rattle.std.proofs.lemmas.List.{append-nil}
use Rattle.cb_frames.specs.Fields.{CastFields, Carried}
pub use Rattle.cb_frames.proofs.Carried.{IsIn}
use Rattle.cb_history.specs.Facts.{Fact, cast_in, casts_in, messages_in}
use Rattle.cb_history.specs.View.{count, expanded_in, is_expanded, is_among, is_in_time, is_ready, of_smallest_sender, lesser_sender, next_delivery, with_next, drained, seen_after, seen_from, view}
use Rattle.cb_history.specs.ViewLaws.{ViewWithOneMore, NothingReadyIsLeft, NextIsTheOnlyCandidate}

-- ---- one more fact

seen_from-append : (size : ℕ) (casts : List CastFields) (seen : List Carried) (facts : List Fact) (f : Fact)
    → seen_from size casts seen (facts ++ f ∷ []) ≡ seen_after size ((casts ++ casts_in facts) ++ cast_in f) (seen_from size casts seen facts) f
seen_from-append size casts seen [] f = ap (λ (cs : List CastFields). seen_after size (cs ++ cast_in f) seen f) (sym (append-nil casts))
seen_from-append size casts seen (g ∷ facts) f =
    seen_from-append size (casts ++ cast_in g) (seen_after size (casts ++ cast_in g) seen g) facts f
    ∙ ap (λ (cs : List CastFields). seen_after size (cs ++ cast_in f) (seen_from size (casts ++ cast_in g) (seen_after size (casts ++ cast_in g) seen g) facts) f) (append_assoc casts (cast_in g) (casts_in facts))

pub casts_in-append : (facts : List Fact) (f : Fact) → casts_in (facts ++ f ∷ []) ≡ casts_in facts ++ cast_in f
casts_in-append [] f = append-nil (cast_in f)
casts_in-append (g ∷ facts) f = ap (λ (cs : List CastFields). cast_in g ++ cs) (casts_in-append facts f) ∙ sym (append_assoc (cast_in g) (casts_in facts) (cast_in f))

pub view_with_one_more : ViewWithOneMore
unfolding view
view_with_one_more size facts f =
    seen_from-append size [] [] facts f ∙ ap (λ (cs : List CastFields). seen_after size cs (seen_from size [] [] facts) f) (sym (casts_in-append facts f))

-- ---- elements

pub test_true : (b c : Bool) → (b && c) ≡ true → (b ≡ true) × (c ≡ true)
test_true true c h = (refl, h)
test_true false c h = absurd cc

pub filter_in : {A : Type 0} (p : A → Bool) (xs : List A) (a : A) → IsIn a (filter p xs) → (p a ≡ true) × IsIn a xs
filter_in p [] a h = absurd h
filter_in {A} p (x ∷ xs) a h =
    cond_both (p x) (x ∷ filter p xs) (filter p xs) (λ (ys : List A). IsIn a ys → (p a ≡ true) × IsIn a (x ∷ xs))
    (λ yes there. elim there [
      | inl same ↦ (ap p same ∙ yes, inl same)
      | inr later ↦ let r = filter_in p xs a later in (r.0, inr r.1)
    ])
    (λ no there. let r = filter_in p xs a there in (r.0, inr r.1)) h

-- an element that passes the test stands among those that do
pub in_filter : {A : Type 0} (p : A → Bool) (xs : List A) (a : A) → p a ≡ true → IsIn a xs → IsIn a (filter p xs)
in_filter p [] a passes h = absurd h
in_filter {A} p (x ∷ xs) a passes (inl same) =
    cond_both (p x) (x ∷ filter p xs) (filter p xs) (λ (ys : List A). IsIn a ys) (λ yes. inl same) (λ no. absurd (let yes : p x ≡ true = ap p (sym same) ∙ passes in cc))
in_filter {A} p (x ∷ xs) a passes (inr later) =
    cond_both (p x) (x ∷ filter p xs) (filter p xs) (λ (ys : List A). IsIn a ys) (λ yes. inr (in_filter p xs a passes later)) (λ no. in_filter p xs a passes later)

-- ---- what is not among the messages seen

pub not_true : (b : Bool) → not b ≡ true → b ≡ false
not_true true h = absurd cc
not_true false h = refl

pub or_left : (b c : Bool) → b ≡ true → (b || c) ≡ true
or_left b c h = rw h refl

pub or_right : (b c : Bool) → c ≡ true → (b || c) ≡ true
or_right true c h = refl
or_right false c h = h

among_more_at : (a b c : Bool) → (a || b) ≡ true → (b ≡ true → c ≡ true) → (a || c) ≡ true
among_more_at true b c h more = refl
among_more_at false b c h more = more h

pub among_more : (seen : List Carried) (n m : Carried) → is_among seen m ≡ true → is_among (seen ++ n ∷ []) m ≡ true
among_more [] n m h = absurd cc
among_more (x ∷ seen) n m h = among_more_at (eqb x.sender m.sender && eqb x.number m.number) (is_among seen m) (is_among (seen ++ n ∷ []) m) h (among_more seen n m)

pub among_front : (xs ys : List Carried) (m : Carried) → is_among xs m ≡ true → is_among (xs ++ ys) m ≡ true
among_front [] ys m h = absurd cc
among_front (x ∷ xs) ys m h = among_more_at (eqb x.sender m.sender && eqb x.number m.number) (is_among xs m) (is_among (xs ++ ys) m) h (among_front xs ys m)

pub among_back : (xs ys : List Carried) (m : Carried) → is_among ys m ≡ true → is_among (xs ++ ys) m ≡ true
among_back [] ys m h = h
among_back (x ∷ xs) ys m h = or_right (eqb x.sender m.sender && eqb x.number m.number) (is_among (xs ++ ys) m) (among_back xs ys m h)

pub among_itself : (seen : List Carried) (m : Carried) → is_among (seen ++ m ∷ []) m ≡ true
among_itself [] m = rw (eq-eqb m.sender m.sender refl, eq-eqb m.number m.number refl) refl
among_itself (x ∷ seen) m = or_right (eqb x.sender m.sender && eqb x.number m.number) (is_among (seen ++ m ∷ []) m) (among_itself seen m)

abbrev pub one_unless : Bool → ℕ
one_unless true = 0
one_unless false = 1

-- how many of these are not among those seen
abbrev pub left : List Carried → List Carried → ℕ
left [] seen = 0
left (m ∷ ms) seen = one_unless (is_among seen m) + left ms seen

pub unless_more : (b c : Bool) → (b ≡ true → c ≡ true) → one_unless c ≤ one_unless b
unless_more true c h = rw (h refl) (omega arith)
unless_more false true h = omega arith
unless_more false false h = omega arith

pub left_more : (ms seen : List Carried) (n : Carried) → left ms (seen ++ n ∷ []) ≤ left ms seen
left_more [] seen n = omega arith
left_more (m ∷ ms) seen n =
    let one = unless_more (is_among seen m) (is_among (seen ++ n ∷ []) m) (among_more seen n m) in
    let others = left_more ms seen n in
    omega (arith, one, others)

pub left_most : (ms seen : List Carried) → left ms seen ≤ length ms
left_most [] seen = omega arith
left_most (m ∷ ms) seen =
    let others = left_most ms seen in
    let one : one_unless (is_among seen m) ≤ 1 = unless_more false (is_among seen m) (λ h. absurd cc) in
    omega (arith, one, others)

pub left_shrinks : (ms seen : List Carried) (m : Carried) → IsIn m ms → is_among seen m ≡ false → left ms (seen ++ m ∷ []) < left ms seen
left_shrinks [] seen m there new = absurd there
left_shrinks (x ∷ ms) seen m (inl same) new =
    let before : one_unless (is_among seen x) ≡ 1 = ap (λ (y : Carried). one_unless (is_among seen y)) (sym same) ∙ ap one_unless new in
    let after : one_unless (is_among (seen ++ m ∷ []) x) ≡ 0 = ap (λ (y : Carried). one_unless (is_among (seen ++ m ∷ []) y)) (sym same) ∙ ap one_unless (among_itself seen m) in
    let others = left_more ms seen m in
    omega (arith, before, after, others)
left_shrinks (x ∷ ms) seen m (inr later) new =
    let one = unless_more (is_among seen x) (is_among (seen ++ m ∷ []) x) (among_more seen m x) in
    let others = left_shrinks ms seen m later new in
    omega (arith, one, others)

left_some : (ms seen : List Carried) (m : Carried) → IsIn m ms → is_among seen m ≡ false → 0 < left ms seen
left_some ms seen m there new =
    let shrinks = left_shrinks ms seen m there new in
    omega (arith, shrinks)

-- ---- the next delivery

pub some_same : (x y : Carried) → Some x ≡ Some y → x ≡ y
some_same x y e = cc

smallest_of : (x : Carried) (ms : List Carried) (o : Option Carried) (m : Carried) → of_smallest_sender ms ≡ o → Some (lesser_sender x o) ≡ Some m → ((n : Carried) → of_smallest_sender ms ≡ Some n → IsIn n ms) → IsIn m (x ∷ ms)
smallest_of x ms None m e h go = inl (sym (some_same x m h))
smallest_of x ms (Some n) m e h go =
    cond_both (leb x.sender n.sender) x n (λ (y : Carried). y ≡ m → IsIn m (x ∷ ms))
    (λ yes same. inl (sym same))
    (λ no same. inr (subst (λ (y : Carried). IsIn y ms) same (go n e))) (some_same (lesser_sender x (Some n)) m h)

smallest_in : (ms : List Carried) (m : Carried) → of_smallest_sender ms ≡ Some m → IsIn m ms
smallest_in [] m h = absurd cc
smallest_in (x ∷ ms) m h = smallest_of x ms (of_smallest_sender ms) m refl h (λ n e. smallest_in ms n e)

-- what may be delivered next is a message of the casts that was not seen yet, and meets the delay rule
pub next_is : (size : ℕ) (casts : List CastFields) (seen : List Carried) (m : Carried) → next_delivery size casts seen ≡ Some m → (is_ready size casts seen m ≡ true) × IsIn m (expanded_in casts)
next_is size casts seen m h = filter_in (is_ready size casts seen) (expanded_in casts) m (smallest_in (filter (is_ready size casts seen) (expanded_in casts)) m h)

pub ready_is_new : (size : ℕ) (casts : List CastFields) (seen : List Carried) (m : Carried) → is_ready size casts seen m ≡ true → is_among seen m ≡ false
ready_is_new size casts seen m h = not_true (is_among seen m) (test_true (not (is_among seen m)) (list_all (is_in_time casts seen m) (range_with_len 0 size)) h).0

pub expanded_is_there : (casts : List CastFields) (m : Carried) → IsIn m (expanded_in casts) → IsIn m (messages_in casts)
expanded_is_there casts m h = (filter_in (is_expanded casts) (messages_in casts) m h).1

none_left : (size : ℕ) (casts : List CastFields) (seen : List Carried) (o : Option Carried) → next_delivery size casts seen ≡ o → left (messages_in casts) seen ≡ 0 → next_delivery size casts seen ≡ None
none_left size casts seen None e none = e
none_left size casts seen (Some m) e none =
    let next = next_is size casts seen m e in
    let some = left_some (messages_in casts) seen m (expanded_is_there casts m next.1) (ready_is_new size casts seen m next.0) in
    absurd (omega (arith, some, none))

drained_on : (size : ℕ) (casts : List CastFields) (budget : ℕ) (seen : List Carried) (o : Option Carried) → next_delivery size casts seen ≡ o → left (messages_in casts) seen ≤ suc budget
    → ((more : List Carried) → left (messages_in casts) more ≤ budget → next_delivery size casts (drained size casts budget more) ≡ None)
    → next_delivery size casts (with_next o seen (λ m. drained size casts budget (seen ++ m ∷ []))) ≡ None
drained_on size casts budget seen None e le go = e
drained_on size casts budget seen (Some m) e le go =
    let next = next_is size casts seen m e in
    let shrinks = left_shrinks (messages_in casts) seen m (expanded_is_there casts m next.1) (ready_is_new size casts seen m next.0) in
    go (seen ++ m ∷ []) (omega (arith, shrinks, le))

drained_all : (size : ℕ) (casts : List CastFields) (budget : ℕ) (seen : List Carried) → left (messages_in casts) seen ≤ budget → next_delivery size casts (drained size casts budget seen) ≡ None
unfolding drained
drained_all size casts zero seen le = none_left size casts seen (next_delivery size casts seen) refl (omega (arith, le))
drained_all size casts (suc budget) seen le = drained_on size casts budget seen (next_delivery size casts seen) refl le (λ more h. drained_all size casts budget more h)

pub nothing_ready_is_left : NothingReadyIsLeft
nothing_ready_is_left size casts seen = drained_all size casts (length (messages_in casts)) seen (left_most (messages_in casts) seen)

-- ---- the only candidate

pub all_in_range : (p : ℕ → Bool) (a n k : ℕ) → list_all p (range_with_len a n) ≡ true → a ≤ k → k < a + n → p k ≡ true
all_in_range p a zero k h low high = absurd (omega (arith, low, high))
all_in_range p a (suc n) k h low high =
    let both = test_true (p a) (list_all p (range_with_len (a + 1) n)) h in
    elim (eq-or-lt_of_le low) [
      | inl same ↦ ap p (sym same) ∙ both.0
      | inr later ↦ all_in_range p (a + 1) n k both.1 (omega (arith, later)) (omega (arith, high))
    ]

pub own_test : (b : Bool) (n other next : ℕ) (r : Bool) → b ≡ true → cond b (eqb (cond b n other) next) r ≡ true → eqb n next ≡ true
own_test true n other next r e h = h
own_test false n other next r e h = absurd cc

pub next_is_the_only_candidate : NextIsTheOnlyCandidate
next_is_the_only_candidate size casts seen m small h =
    let rule = test_true (not (is_among seen m)) (list_all (is_in_time casts seen m) (range_with_len 0 size)) h in
    let own : is_in_time casts seen m m.sender ≡ true = all_in_range (is_in_time casts seen m) 0 size m.sender rule.1 (omega arith) (omega (arith, small)) in
    let same = eq-eqb m.sender m.sender refl in
    eqb-true m.number (count seen m.sender + 1) (own_test (eqb m.sender m.sender) m.number _ (count seen m.sender + 1) _ same own)
