-- Help among some members: one of them is asked, and help asks among all.
use Rattle.std.proofs.Common.{◌≡◌, ◌≢◌, ℕ, zero, suc, ◌+◌, ◌<◌, ◌≤◌, ◌&&◌, Bool, true, false, cond, not, eqb, ltb, leb, List, [], ◌∷◌, take, inl, inr, Option, Some, None, Result, Ok, Err, refl, sym, ap, subst, arith}
use Rattle.std.specs.List.{Contains, list_all, range_with_len}
use Rattle.std.proofs.lemmas.Bool.{cases_eq, cases_lt, eq-eqb, le-leb, le-ltb, lt-leb, lt-ltb, ne_eqb, not-true, eqb-false}
use Rattle.std.proofs.lemmas.List.Elements.{Contains-append_right}
use Rattle.cb_frames.specs.declared.frame.Range.{Range}
use Rattle.cb_history.specs.declared.answer.HelpFault.{HelpFault}
use Rattle.cb_history.specs.declared.answer.HelpFault.TheVariants as helps
use Rattle.cb_history.specs.declared.answer.Outgoing.{Outgoing}
use Rattle.cb_history.specs.Facts.{EntryFields, Fact, facts_of}
use Rattle.cb_history.specs.Group.{Identity}
use Rattle.cb_history.specs.Helping.{first_where, help_answer, help_for, help_to}
use Rattle.cb_history.specs.Known.{missing, ranges_of, acknowledged_of}
use Rattle.cb_member.specs.Helping.{help_answer_among, help_for_among, helper_among, may_ask_among, GoesToOneOf, AsksOneOfThese, HelpIsAmongAll}

-- ---- all members, in rising order

pub row_front : (a n m : ℕ) → n ≤ m → take n (range_with_len a m) ≡ range_with_len a n
row_front a zero m le = refl
row_front a (suc n) zero le = absurd (omega (arith, le))
row_front a (suc n) (suc m) le = ap (λ (ks : List ℕ). a ∷ ks) (row_front (a + 1) n m (omega (arith, le)))

row_below : (a n m : ℕ) → a + n ≤ m → list_all (λ x. ltb x m) (range_with_len a n) ≡ true
row_below a zero m le = refl
row_below a (suc n) m le = rw (lt-ltb a m (omega (arith, le)), row_below (a + 1) n m (omega (arith, le))) refl

pub may_ask_all : (seat : Identity) (i : ℕ) → i < seat.group.size → i ≢ seat.me → may_ask_among seat i (range_with_len 0 seat.group.size) ≡ true
may_ask_all seat i within other = rw (lt-ltb i seat.group.size within, ne_eqb i seat.me other, row_below 0 seat.group.size seat.group.size (omega arith)) refl

pub among_all : (seat : Identity) (facts : List Fact) (i : ℕ) (ranges : List Range) → help_for_among seat facts i ranges (range_with_len 0 seat.group.size) ≡ help_for seat facts i ranges
among_all seat facts i [] = refl
among_all seat facts i (r ∷ ranges) = refl

answered_alike : (seat : Identity) (entries : List EntryFields) (i : ℕ) → help_answer seat entries i ≡ help_answer_among seat (facts_of entries) i (range_with_len 0 seat.group.size)
unfolding help_answer help_answer_among
answered_alike seat entries i =
    let facts = facts_of entries in
    let answered = λ (out : Option Outgoing). (let answer : Result (Option Outgoing) HelpFault = Ok out in answer) in
    elim (cases_lt i seat.group.size) [
      | inl within ↦ elim (cases_eq i seat.me) [
        | inl own ↦ rw (lt-leb seat.group.size i within, lt-ltb i seat.group.size within, eq-eqb i seat.me own) refl
        | inr other ↦ rw (lt-leb seat.group.size i within, lt-ltb i seat.group.size within, ne_eqb i seat.me other, row_below 0 seat.group.size seat.group.size (omega arith))
            (ap answered (sym (among_all seat facts i (ranges_of (missing seat facts i)))))
      ]
      | inr beyond ↦ rw (le-leb seat.group.size i beyond, le-ltb i seat.group.size beyond) refl
    ]

pub help_is_among_all : HelpIsAmongAll
help_is_among_all m i = answered_alike m.seat m.entries i

-- ---- who is asked

first_is : (p : ℕ → Bool) (ks : List ℕ) (k : ℕ) → first_where p ks ≡ Some k → Contains ks k × (p k ≡ true)
first_is p [] k is = absurd cc
first_is p (n ∷ ns) k is = by_head (first_is p ns k) (p n) refl is
  where
    by_head : (first_where p ns ≡ Some k → Contains ns k × (p k ≡ true)) → (b : Bool) → p n ≡ b → cond b (Some n) (first_where p ns) ≡ Some k → Contains (n ∷ ns) k × (p k ≡ true)
    by_head later true holds found =
        let here : n ≡ k = cc in
        ((0, omega arith, here), subst (λ (x : ℕ). p x ≡ true) here holds)
    by_head later false fails found =
        let behind = later found in
        (Contains-append_right (n ∷ []) ns k behind.0, behind.1)

same_frame : (a b : Outgoing) → Some a ≡ Some b → a ≡ b
same_frame a b e = cc

to_one : (seat : Identity) (facts : List Fact) (i n : ℕ) (members : List ℕ) (ranges : List Range) (out : Outgoing) (helper : Option ℕ)
    → helper_among seat facts i n members ≡ helper → help_to seat i ranges helper ≡ Some out → GoesToOneOf seat i members out
to_one seat facts i n members ranges out None found is = absurd cc
to_one seat facts i n members ranges out (Some k) found is =
    let first = first_is (λ (x : ℕ). not (eqb x i) && not (eqb x seat.me) && leb n (acknowledged_of seat facts x i)) members k found in
    let parts = others (eqb k i) (eqb k seat.me) (leb n (acknowledged_of seat facts k i)) first.1 in
    record {
      member = k;
      to = ap (λ (o : Outgoing). o.to) (sym (same_frame _ out is));
      given = first.0;
      third = eqb-false k i (not-true (eqb k i) parts.0);
      other = eqb-false k seat.me (not-true (eqb k seat.me) parts.1);
    }
  where
    others : (a b c : Bool) → (not a && not b && c) ≡ true → (not a ≡ true) × (not b ≡ true)
    others true b c e = absurd cc
    others false true c e = absurd cc
    others false false c e = (refl, refl)

asked_of_one : (seat : Identity) (facts : List Fact) (i : ℕ) (members : List ℕ) (out : Outgoing) → help_answer_among seat facts i members ≡ Ok (Some out) → GoesToOneOf seat i members out
unfolding help_answer_among
asked_of_one seat facts i members out is = of_ranges (ranges_of (missing seat facts i)) (answered (may_ask_among seat i members) _ is)
  where
    answered : (may : Bool) (sent : Option Outgoing) → cond may (let answer : Result (Option Outgoing) HelpFault = Ok sent in answer) (Err helps.BadMember) ≡ Ok (Some out) → sent ≡ Some out
    answered true sent e = cc
    answered false sent e = absurd cc

    of_ranges : (ranges : List Range) → help_for_among seat facts i ranges members ≡ Some out → GoesToOneOf seat i members out
    of_ranges [] e = absurd cc
    of_ranges (r ∷ ranges) e = to_one seat facts i r.first members (r ∷ ranges) out (helper_among seat facts i r.first members) refl e

pub asks_one_of_these : AsksOneOfThese
asks_one_of_these m i members out is = asked_of_one m.seat (facts_of m.entries) i members out is
