-- Elements, names and counts of lists of messages.
use Rattle.std.proofs.Common.{◌≡◌, ◌≢◌, ℕ, zero, suc, length, take, ◌+◌, ◌<◌, ◌≤◌, Bool, true, false, cond, ◌&&◌, ◌||◌, eqb, List, [], ◌∷◌, ◌++◌, refl, sym, ap, ◌∙◌, subst, append_assoc, arith, inl, inr, ◌⊎◌}
use Rattle.std.specs.List.{AllByRecursion, flat_map, list_all, list_any}
use Rattle.std.proofs.lemmas.Bool.{eqb-true, eq-eqb, ne_eqb, cases_eq, and_right, or_cases}
use Rattle.std.proofs.lemmas.List.{append-nil, length-append, length-take-le}
use Rattle.cb_frames.specs.Fields.{IsSome, CastFields, Carried, messages_of, first_number, last_number}
use Rattle.cb_frames.specs.Carrying.{AreNumberedFrom}
use Rattle.cb_frames.proofs.Carried.{load_has_one, row_within, carried_in_order, carries_payloads, carried_up_to_the_last}
use Rattle.cb_history.specs.Facts.{messages_in}
use Rattle.cb_history.specs.View.{count, is_among}
use Rattle.cb_history.specs.NameLaws.{InOrderAfter, NamesDiffer}
use Rattle.cb_history.specs.Singles.{IsSingle}
use Rattle.cb_history.proofs.Views.{IsIn, or_left, or_right, test_true}

-- ---- elements

pub flat_map-append : {A B : Type 0} (g : A → List B) (xs ys : List A) → flat_map g (xs ++ ys) ≡ flat_map g xs ++ flat_map g ys
flat_map-append g [] ys = refl
flat_map-append {A} {B} g (x ∷ xs) ys = ap (λ (zs : List B). g x ++ zs) (flat_map-append g xs ys) ∙ sym (append_assoc (g x) (flat_map g xs) (flat_map g ys))

pub messages_in-push : (casts : List CastFields) (c : CastFields) → messages_in (casts ++ c ∷ []) ≡ messages_in casts ++ messages_of c
messages_in-push casts c = flat_map-append messages_of casts (c ∷ []) ∙ ap (λ (ms : List Carried). messages_in casts ++ ms) (append-nil (messages_of c))

pub in_append : {A : Type 0} (a : A) (xs ys : List A) → IsIn a (xs ++ ys) → IsIn a xs ⊎ IsIn a ys
in_append a [] ys h = inr h
in_append a (x ∷ xs) ys (inl same) = inl (inl same)
in_append a (x ∷ xs) ys (inr later) = elim (in_append a xs ys later) [
  | inl front ↦ inl (inr front)
  | inr back ↦ inr back
]

pub in_front : {A : Type 0} (a : A) (xs ys : List A) → IsIn a xs → IsIn a (xs ++ ys)
in_front a [] ys h = absurd h
in_front a (x ∷ xs) ys (inl same) = inl same
in_front a (x ∷ xs) ys (inr later) = inr (in_front a xs ys later)

pub in_back : {A : Type 0} (a : A) (xs ys : List A) → IsIn a ys → IsIn a (xs ++ ys)
in_back a [] ys h = h
in_back a (x ∷ xs) ys h = inr (in_back a xs ys h)

pub in_one : {A : Type 0} (a x : A) → IsIn a (x ∷ []) → a ≡ x
in_one a x (inl same) = same
in_one a x (inr none) = absurd none

-- a received message before, or the new one
pub in_push : {A : Type 0} (a x : A) (xs : List A) → IsIn a (xs ++ x ∷ []) → IsIn a xs ⊎ (a ≡ x)
in_push a x xs h = elim (in_append a xs (x ∷ []) h) [
  | inl front ↦ inl front
  | inr back ↦ inr (in_one a x back)
]

-- a test that all pass
pub all_of : {A : Type 0} (p : A → Bool) (xs : List A) → ((a : A) → IsIn a xs → p a ≡ true) → list_all p xs ≡ true
all_of p [] each = refl
all_of p (x ∷ xs) each = rw (each x (inl refl), all_of p xs (λ a later. each a (inr later))) refl

pub each_of : {A : Type 0} (p : A → Bool) (xs : List A) (a : A) → list_all p xs ≡ true → IsIn a xs → p a ≡ true
each_of p [] a all there = absurd there
each_of p (x ∷ xs) a all (inl same) = ap p same ∙ (test_true (p x) (list_all p xs) all).0
each_of p (x ∷ xs) a all (inr later) = each_of p xs a (test_true (p x) (list_all p xs) all).1 later

-- a test that some passes
pub any_of : {A : Type 0} (p : A → Bool) (xs : List A) (a : A) → IsIn a xs → p a ≡ true → list_any p xs ≡ true
any_of p [] a there passes = absurd there
any_of p (x ∷ xs) a (inl same) passes = or_left (p x) (list_any p xs) (ap p (sym same) ∙ passes)
any_of p (x ∷ xs) a (inr later) passes = or_right (p x) (list_any p xs) (any_of p xs a later passes)

pub one_of : {A : Type 0} (p : A → Bool) (xs : List A) → list_any p xs ≡ true → (a : A) × IsIn a xs × (p a ≡ true)
one_of p [] some = absurd cc
one_of p (x ∷ xs) some = elim (or_cases (p x) (list_any p xs) some) [
  | inl here ↦ (x, inl refl, here)
  | inr later ↦ let found = one_of p xs later in (found.0, inr found.1, found.2)
]

-- a message of the casts before, or of the new one
pub in_casts_push : (casts : List CastFields) (c : CastFields) (m : Carried) → IsIn m (messages_in (casts ++ c ∷ [])) → IsIn m (messages_in casts) ⊎ IsIn m (messages_of c)
in_casts_push casts c m h = in_append m (messages_in casts) (messages_of c) (subst (IsIn m) (messages_in-push casts c) h)

pub in_casts_front : (casts : List CastFields) (c : CastFields) (m : Carried) → IsIn m (messages_in casts) → IsIn m (messages_in (casts ++ c ∷ []))
in_casts_front casts c m h = subst (IsIn m) (sym (messages_in-push casts c)) (in_front m (messages_in casts) (messages_of c) h)

pub in_casts_back : (casts : List CastFields) (c : CastFields) (m : Carried) → IsIn m (messages_of c) → IsIn m (messages_in (casts ++ c ∷ []))
in_casts_back casts c m h = subst (IsIn m) (sym (messages_in-push casts c)) (in_back m (messages_in casts) (messages_of c) h)

-- the message of a cast that is there, and the cast of a message that is there
pub carried_there : (casts : List CastFields) (c : CastFields) (m : Carried) → IsIn c casts → IsIn m (messages_of c) → IsIn m (messages_in casts)
carried_there [] c m there of = absurd there
carried_there (x ∷ casts) c m (inl same) of = in_front m (messages_of x) (messages_in casts) (subst (λ (y : CastFields). IsIn m (messages_of y)) same of)
carried_there (x ∷ casts) c m (inr later) of = in_back m (messages_of x) (messages_in casts) (carried_there casts c m later of)

pub carrier : (casts : List CastFields) (m : Carried) → IsIn m (messages_in casts) → (c : CastFields) × IsIn c casts × IsIn m (messages_of c)
carrier [] m there = absurd there
carrier (x ∷ casts) m there = elim (in_append m (messages_of x) (messages_in casts) there) [
  | inl here ↦ (x, inl refl, here)
  | inr later ↦ let found = carrier casts m later in (found.0, inr found.1, found.2)
]

-- ---- names

pub or_false : (b c : Bool) → (b || c) ≡ false → (b ≡ false) × (c ≡ false)
or_false true c h = absurd cc
or_false false c h = (refl, h)

pub both_false : (b c : Bool) → b ≡ false → c ≡ false → (b || c) ≡ false
both_false b c h k = rw (h, k) refl

pub flipped : (m n : ℕ) → eqb m n ≡ eqb n m
flipped m n = elim (cases_eq m n) [
  | inl e ↦ eq-eqb m n e ∙ sym (eq-eqb n m (sym e))
  | inr ne ↦ ne_eqb m n ne ∙ sym (ne_eqb n m (λ e. ne (sym e)))
]

pub not_among_more : (ms : List Carried) (m x : Carried) → is_among ms x ≡ false → (eqb m.sender x.sender && eqb m.number x.number) ≡ false → is_among (ms ++ m ∷ []) x ≡ false
not_among_more [] m x none new = both_false (eqb m.sender x.sender && eqb m.number x.number) false new refl
not_among_more (y ∷ ms) m x none new =
    let both = or_false (eqb y.sender x.sender && eqb y.number x.number) (is_among ms x) none in
    both_false (eqb y.sender x.sender && eqb y.number x.number) (is_among (ms ++ m ∷ []) x) both.0 (not_among_more ms m x both.1 new)

-- no message of a list has the name of another one
pub none_among : (ms : List Carried) (m : Carried) → ((x : Carried) → IsIn x ms → (eqb x.sender m.sender && eqb x.number m.number) ≡ false) → is_among ms m ≡ false
none_among [] m each = refl
none_among (x ∷ ms) m each = both_false (eqb x.sender m.sender && eqb x.number m.number) (is_among ms m) (each x (inl refl)) (none_among ms m (λ y later. each y (inr later)))

not_among_each : (ms : List Carried) (m x : Carried) → is_among ms m ≡ false → IsIn x ms → (eqb x.sender m.sender && eqb x.number m.number) ≡ false
not_among_each [] m x none there = absurd there
not_among_each (y ∷ ms) m x none (inl same) =
    subst (λ (z : Carried). (eqb z.sender m.sender && eqb z.number m.number) ≡ false) (sym same) (or_false (eqb y.sender m.sender && eqb y.number m.number) (is_among ms m) none).0
not_among_each (y ∷ ms) m x none (inr later) = not_among_each ms m x (or_false (eqb y.sender m.sender && eqb y.number m.number) (is_among ms m) none).1 later

pub not_among_append : (xs ys : List Carried) (m : Carried) → is_among xs m ≡ false → is_among ys m ≡ false → is_among (xs ++ ys) m ≡ false
not_among_append [] ys m none others = others
not_among_append (x ∷ xs) ys m none others =
    let both = or_false (eqb x.sender m.sender && eqb x.number m.number) (is_among xs m) none in
    both_false (eqb x.sender m.sender && eqb x.number m.number) (is_among (xs ++ ys) m) both.0 (not_among_append xs ys m both.1 others)

not_among_behind : (xs ys : List Carried) (m : Carried) → is_among (xs ++ ys) m ≡ false → is_among ys m ≡ false
not_among_behind [] ys m none = none
not_among_behind (x ∷ xs) ys m none = not_among_behind xs ys m (or_false (eqb x.sender m.sender && eqb x.number m.number) (is_among (xs ++ ys) m) none).1

differs_back : (m x : Carried) → (eqb m.sender x.sender && eqb m.number x.number) ≡ false → (eqb x.sender m.sender && eqb x.number m.number) ≡ false
differs_back m x h = rw (flipped x.sender m.sender, flipped x.number m.number) h

pub names_append : (ms more : List Carried) → NamesDiffer ms → NamesDiffer more → ((m : Carried) → IsIn m more → is_among ms m ≡ false) → NamesDiffer (ms ++ more)
names_append [] more differ others new = others
names_append (x ∷ ms) more differ others new = (
  not_among_append ms more x differ.0 (none_among more x (λ m there. differs_back x m (or_false (eqb x.sender m.sender && eqb x.number m.number) (is_among ms m) (new m there)).0)),
  names_append ms more differ.1 others (λ m there. (or_false (eqb x.sender m.sender && eqb x.number m.number) (is_among ms m) (new m there)).1),
)

-- and the other way round: what stands behind has other names
pub names_apart : (ms more : List Carried) (m : Carried) → NamesDiffer (ms ++ more) → IsIn m more → is_among ms m ≡ false
names_apart [] more m differ there = refl
names_apart (x ∷ ms) more m differ there =
    both_false (eqb x.sender m.sender && eqb x.number m.number) (is_among ms m)
    (differs_back m x (not_among_each more x m (not_among_behind ms more x differ.0) there)) (names_apart ms more m differ.1 there)

pub names_behind : (ms more : List Carried) → NamesDiffer (ms ++ more) → NamesDiffer more
names_behind [] more differ = differ
names_behind (x ∷ ms) more differ = names_behind ms more differ.1

row_names : (sender n : ℕ) (ms : List Carried) → AreNumberedFrom sender n ms → NamesDiffer ms
row_names sender n [] row = tt
row_names sender n (x ∷ ms) row = (none_among ms x (λ y there. and_right (eqb y.sender x.sender) (eqb y.number x.number) (ne_eqb y.number x.number (above y there))), row_names sender (n + 1) ms row.2)
  where
    above : (y : Carried) → IsIn y ms → y.number ≢ x.number
    above y there same =
        let low = (row_within sender (n + 1) ms y row.2 there).low in
        let here = row.1 in
        omega (arith, low, same, here)

-- the messages of a cast have different names
pub carried_names : (c : CastFields) → NamesDiffer (messages_of c)
carried_names c = row_names c.sender (first_number c) (messages_of c) (carried_in_order c)

pub names_push : (ms : List Carried) (m : Carried) → NamesDiffer ms → is_among ms m ≡ false → NamesDiffer (ms ++ m ∷ [])
names_push [] m differ new = (refl, tt)
names_push (x ∷ ms) m differ new =
    let both = or_false (eqb x.sender m.sender && eqb x.number m.number) (is_among ms m) new in
    let other : (eqb m.sender x.sender && eqb m.number x.number) ≡ false = rw (flipped m.sender x.sender, flipped m.number x.number) both.0 in
    (not_among_more ms m x differ.0 other, names_push ms m differ.1 both.1)

pub in_is_among : (ms : List Carried) (m : Carried) → IsIn m ms → is_among ms m ≡ true
in_is_among [] m h = absurd h
in_is_among (x ∷ ms) m (inl same) = or_left (eqb x.sender m.sender && eqb x.number m.number) (is_among ms m) (rw (eq-eqb x.sender m.sender (ap (λ (y : Carried). y.sender) (sym same)), eq-eqb x.number m.number (ap (λ (y : Carried). y.number) (sym same))) refl)
in_is_among (x ∷ ms) m (inr later) = or_right (eqb x.sender m.sender && eqb x.number m.number) (is_among ms m) (in_is_among ms m later)

-- the message of the list that has the name
pub among_is : (ms : List Carried) (m : Carried) → is_among ms m ≡ true → (n : Carried) × IsIn n ms × (n.sender ≡ m.sender) × (n.number ≡ m.number)
among_is [] m h = absurd cc
among_is (x ∷ ms) m h = either_among x ms m (eqb x.sender m.sender && eqb x.number m.number) refl h (λ later. among_is ms m later)
  where
    either_among : (x : Carried) (ms : List Carried) (m : Carried) (b : Bool) → (eqb x.sender m.sender && eqb x.number m.number) ≡ b → (b || is_among ms m) ≡ true → (is_among ms m ≡ true → (n : Carried) × IsIn n ms × (n.sender ≡ m.sender) × (n.number ≡ m.number))
        → (n : Carried) × IsIn n (x ∷ ms) × (n.sender ≡ m.sender) × (n.number ≡ m.number)
    either_among x ms m true e h go = let both = test_true (eqb x.sender m.sender) (eqb x.number m.number) e in (x, inl refl, eqb-true x.sender m.sender both.0, eqb-true x.number m.number both.1)
    either_among x ms m false e h go = let found = go h in (found.0, inr found.1, found.2, found.3)

-- ---- counts and order

pub count-append : (xs ys : List Carried) (k : ℕ) → count (xs ++ ys) k ≡ count xs k + count ys k
count-append [] ys k = omega arith
count-append (x ∷ xs) ys k = let others = count-append xs ys k in omega (arith, others)

pub count_own : (xs : List Carried) (m : Carried) (k : ℕ) → m.sender ≡ k → count (xs ++ m ∷ []) k ≡ count xs k + 1
count_own xs m k e = count-append xs (m ∷ []) k ∙ rw (eq-eqb m.sender k e) (omega arith)

pub count_other : (xs : List Carried) (m : Carried) (k : ℕ) → m.sender ≢ k → count (xs ++ m ∷ []) k ≡ count xs k
count_other xs m k ne = count-append xs (m ∷ []) k ∙ rw (ne_eqb m.sender k ne) (omega arith)

count_of_row : (sender n : ℕ) (ms : List Carried) → AreNumberedFrom sender n ms → count ms sender ≡ length ms
count_of_row sender n [] row = refl
count_of_row sender n (x ∷ ms) row =
    let one : cond {A = ℕ} (eqb x.sender sender) 1 0 ≡ 1 = rw (eq-eqb x.sender sender row.0) refl in
    let others = count_of_row sender (n + 1) ms row.2 in
    omega (arith, one, others)

count_off_row : (sender n k : ℕ) (ms : List Carried) → sender ≢ k → AreNumberedFrom sender n ms → count ms k ≡ 0
count_off_row sender n k [] ne row = refl
count_off_row sender n k (x ∷ ms) ne row =
    let none : cond {A = ℕ} (eqb x.sender k) 1 0 ≡ 0 = rw (ne_eqb x.sender k (λ e. ne (sym row.0 ∙ e))) refl in
    let others = count_off_row sender (n + 1) k ms ne row.2 in
    omega (arith, none, others)

-- how many messages of a member there are with those of a cast
pub count_of_messages : (xs : List Carried) (c : CastFields) (k : ℕ) → c.sender ≡ k → count (xs ++ messages_of c) k ≡ count xs k + length (messages_of c)
count_of_messages xs c k e =
    count-append xs (messages_of c) k ∙ ap (λ (n : ℕ). count xs k + n) (ap (count (messages_of c)) (sym e) ∙ count_of_row c.sender (first_number c) (messages_of c) (carried_in_order c))

pub count_of_others : (xs : List Carried) (c : CastFields) (k : ℕ) → c.sender ≢ k → count (xs ++ messages_of c) k ≡ count xs k
count_of_others xs c k ne =
    let none = count_off_row c.sender (first_number c) k (messages_of c) ne (carried_in_order c) in
    omega (arith, count-append xs (messages_of c) k, none)

-- and with the first ones of them
row_front : (sender n j : ℕ) (ms : List Carried) → AreNumberedFrom sender n ms → AreNumberedFrom sender n (take j ms)
row_front sender n zero ms row = tt
row_front sender n (suc j) [] row = tt
row_front sender n (suc j) (x ∷ ms) row = (row.0, row.1, row_front sender (n + 1) j ms row.2)

pub count_of_first : (xs : List Carried) (c : CastFields) (k j : ℕ) → c.sender ≡ k → j ≤ length (messages_of c) → count (xs ++ take j (messages_of c)) k ≡ count xs k + j
count_of_first xs c k j e most =
    let row = row_front c.sender (first_number c) j (messages_of c) (carried_in_order c) in
    let counted : count (take j (messages_of c)) k ≡ length (take j (messages_of c)) = ap (count (take j (messages_of c))) (sym e) ∙ count_of_row c.sender (first_number c) (take j (messages_of c)) row in
    omega (arith, count-append xs (take j (messages_of c)) k, counted, length-take-le j (messages_of c) most)

pub count_off_first : (xs : List Carried) (c : CastFields) (k j : ℕ) → c.sender ≢ k → count (xs ++ take j (messages_of c)) k ≡ count xs k
count_off_first xs c k j ne =
    let none = count_off_row c.sender (first_number c) k (take j (messages_of c)) ne (row_front c.sender (first_number c) j (messages_of c) (carried_in_order c)) in
    omega (arith, count-append xs (take j (messages_of c)) k, none)

-- with the messages of its sender's next cast there are as many as the cast's last number
pub count_to_the_last : (xs : List Carried) (c : CastFields) (k : ℕ) → IsSome c.load → c.sender ≡ k → first_number c ≡ count xs k + 1 → count (xs ++ messages_of c) k ≡ last_number c
count_to_the_last xs c k some e next = omega (arith, count_of_messages xs c k e, carried_up_to_the_last c some, next)

pub order_append : (before ms more : List Carried) → InOrderAfter before ms → InOrderAfter (before ++ ms) more → InOrderAfter before (ms ++ more)
order_append before [] more order next = subst (λ (seen : List Carried). InOrderAfter seen more) (append-nil before) next
order_append before (x ∷ ms) more order next =
    (order.0, order_append (before ++ x ∷ []) ms more order.1 (subst (λ (seen : List Carried). InOrderAfter seen more) (sym (append_assoc before (x ∷ []) ms)) next))

row_order : (before : List Carried) (sender n : ℕ) (ms : List Carried) → AreNumberedFrom sender n ms → n ≡ count before sender + 1 → InOrderAfter before ms
row_order before sender n [] row next = tt
row_order before sender n (x ∷ ms) row next = (
  row.1 ∙ next ∙ ap (λ (k : ℕ). count before k + 1) (sym row.0),
  row_order (before ++ x ∷ []) sender (n + 1) ms row.2 (omega (arith, next, count_own before x sender row.0)),
)

-- the messages of a sender's next cast stand in order behind those before it
pub carried_order : (before : List Carried) (c : CastFields) → first_number c ≡ count before c.sender + 1 → InOrderAfter before (messages_of c)
carried_order before c next = row_order before c.sender (first_number c) (messages_of c) (carried_in_order c) next

pub order_push : (before ms : List Carried) (m : Carried) → InOrderAfter before ms → m.number ≡ count (before ++ ms) m.sender + 1 → InOrderAfter before (ms ++ m ∷ [])
order_push before [] m order next = (next ∙ ap (λ (seen : List Carried). count seen m.sender + 1) (append-nil before), tt)
order_push before (x ∷ ms) m order next =
    (order.0, order_push (before ++ x ∷ []) ms m order.1 (next ∙ ap (λ (seen : List Carried). count seen m.sender + 1) (sym (append_assoc before (x ∷ []) ms))))

-- in an ordered list each number from the first new one on stands
pub among_by_order : (before ms : List Carried) (m : Carried) → InOrderAfter before ms → count before m.sender < m.number → m.number ≤ count before m.sender + count ms m.sender → is_among ms m ≡ true
among_by_order before [] m order low high = absurd (omega arith)
among_by_order before (x ∷ ms) m order low high =
    elim (cases_eq x.sender m.sender) [
      | inl e ↦
          let here : x.number ≡ count before m.sender + 1 = order.0 ∙ ap (λ (k : ℕ). count before k + 1) e in
          let own = count_own before x m.sender e in
          let one : cond {A = ℕ} (eqb x.sender m.sender) 1 0 ≡ 1 = rw (eq-eqb x.sender m.sender e) refl in
          elim (cases_eq x.number m.number) [
            | inl f ↦ or_left (eqb x.sender m.sender && eqb x.number m.number) (is_among ms m) (rw (eq-eqb x.sender m.sender e, eq-eqb x.number m.number f) refl)
            | inr nf ↦ or_right (eqb x.sender m.sender && eqb x.number m.number) (is_among ms m) (among_by_order (before ++ x ∷ []) ms m order.1 (omega (arith, here, own, nf)) (omega (arith, high, own, one)))
          ]
      | inr ne ↦
          let other = count_other before x m.sender ne in
          let none : cond {A = ℕ} (eqb x.sender m.sender) 1 0 ≡ 0 = rw (ne_eqb x.sender m.sender ne) refl in
          or_right (eqb x.sender m.sender && eqb x.number m.number) (is_among ms m) (among_by_order (before ++ x ∷ []) ms m order.1 (omega (arith, other, low)) (omega (arith, high, other, none)))
    ]

-- and no number above the count does
pub order_bound : (before ms : List Carried) (m : Carried) → InOrderAfter before ms → IsIn m ms → m.number ≤ count before m.sender + count ms m.sender
order_bound before [] m order there = absurd there
order_bound before (x ∷ ms) m order (inl same) =
    let name : x.sender ≡ m.sender = ap (λ (y : Carried). y.sender) (sym same) in
    let here : x.number ≡ count before m.sender + 1 = order.0 ∙ ap (λ (k : ℕ). count before k + 1) name in
    let number : m.number ≡ x.number = ap (λ (y : Carried). y.number) same in
    let one : cond {A = ℕ} (eqb x.sender m.sender) 1 0 ≡ 1 = rw (eq-eqb x.sender m.sender name) refl in
    omega (arith, here, number, one)
order_bound before (x ∷ ms) m order (inr later) =
    let others = order_bound (before ++ x ∷ []) ms m order.1 later in
    let both = count-append before (x ∷ []) m.sender in
    omega (arith, others, both)

-- the messages of casts of one message each are as many as the casts
pub length_messages : (casts : List CastFields) → AllByRecursion IsSingle casts → length (messages_in casts) ≡ length casts
length_messages [] single = refl
length_messages (c ∷ casts) single = omega (arith, length-append (messages_of c) (messages_in casts), carries_payloads c, load_has_one c.load single.0, length_messages casts single.1)
