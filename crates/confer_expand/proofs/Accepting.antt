-- What the expander's answers say of the casts accepted before.
use Rattle.std.proofs.Common.{◌≡◌, ◌≢◌, ◌↔◌, ℕ, ◌+◌, ◌<◌, ◌≤◌, Bool, true, false, ltb, List, [], ◌∷◌, ◌++◌, length, max, min, Result, Ok, Err, refl, sym, ap, ◌∙◌, arith, inl, inr}
use Rattle.std.specs.Prelude.{slice_set}
use Rattle.std.specs.List.{list_all, AllByRecursion}
use Rattle.std.proofs.lemmas.Bool.{cases_eq, eq-eqb, ne_eqb, lt-ltb, ltb-true, and_from, and_parts}
use Rattle.std.proofs.lemmas.List.{length-set, get_or-set_same, get_or-set_other, ext_get_or}
use Rattle.std.proofs.lemmas.List.Elements.{recursion_from_All, All-from_recursion}
use Rattle.std.proofs.lemmas.List.FromFn.{get_or-map-range_with_len, length-map-range_with_len}
use Rattle.std.proofs.lemmas.List.Sums.{sum_by-cons, sum_by_push}
use Rattle.cb_times.specs.Order.{field}
use Rattle.cb_frames.specs.declared.frame.Change.{Change}
use Rattle.cb_frames.specs.Fields.{CastFields, first_number, last_number}
use Rattle.cb_frames.specs.Reading.{frame_at}
use Rattle.cb_frames.proofs.Carried.{carries_some}
use Rattle.hex.specs.Hex.{decode_of}
use Rattle.cb_diffs.specs.declared.expander.ExpandFault.{ExpandFault}
use Rattle.cb_diffs.specs.declared.expander.ExpandFault.TheVariants.{BadMember, NotNext, NoMemory}
use Rattle.cb_diffs.specs.Expansion.{greatest, expanded_field, expanded_time, growth_of, last_in, AreMembers, CarrySome, IsNotNext, IsStrange, Expands}
use Rattle.cb_diffs.specs.Laws.{IsKept}
use Rattle.cb_diffs.proofs.Sums.{total, growth_of-other, growth_of-own, expanding_is_summing}
use Rattle.confer_expand.specs.declared.refusal.Refusal.TheVariants.{Expand}
use Rattle.confer_expand.specs.Answers.{or_bad_hex, cast_or_refusal, are_members, accept, outcome}
use Rattle.confer_expand.specs.Progress.{Group}
use Rattle.confer_expand.specs.Steps.{HasTime}

all_members : (size : ℕ) (changes : List Change) → AllByRecursion (λ d. d.field < size) changes
    → list_all (λ d. ltb d.field size) changes ≡ true
all_members size [] h = refl
all_members size (d ∷ changes) h = rw (lt-ltb d.field size h.0, all_members size changes h.1) refl

are_members-yes : (size : ℕ) (c : CastFields) → AreMembers size c → are_members size c ≡ true
are_members-yes size c m =
    and_from (ltb c.sender size) (list_all (λ d. ltb d.field size) c.changes) (lt-ltb c.sender size m.sender)
    (all_members size c.changes (recursion_from_All (λ (d : Change). d.field < size) c.changes m.changes))

-- ---- the times of the messages of one cast

-- from the sender's last number on a sum has all of its casts
total_past : (casts : List CastFields) (j n m k : ℕ) → CarrySome casts → last_in casts j ≤ n → last_in casts j ≤ m → total casts j n k ≡ total casts j m k
total_past [] j n m k some ln lm = refl
total_past (c ∷ casts) j n m k some ln lm =
    let a = sum_by-cons (growth_of j n k) c casts in
    let b = sum_by-cons (growth_of j m k) c casts in
    elim (cases_eq c.sender j) [
      | inl e ↦
          let is : last_in (c ∷ casts) j ≡ max (last_number c) (last_in casts j) = rw (eq-eqb c.sender j e) refl in
          let others = total_past casts j n m k some.1 (omega (arith, is, ln)) (omega (arith, is, lm)) in
          omega (arith, a, b, others, growth_of-own j n k c e (omega (arith, is, ln, carries_some c some.0)), growth_of-own j m k c e (omega (arith, is, lm, carries_some c some.0)))
      | inr ne ↦
          let is : last_in (c ∷ casts) j ≡ last_in casts j = rw (ne_eqb c.sender j ne) refl in
          let others = total_past casts j n m k some.1 (omega (arith, is, ln)) (omega (arith, is, lm)) in
          omega (arith, a, b, others, growth_of-other j n k c ne, growth_of-other j m k c ne)
    ]

-- between the messages of the sender's next cast a sum does not grow
total_stays : (accepted : List CastFields) (c : CastFields) (number k : ℕ) → CarrySome accepted → first_number c ≡ last_in accepted c.sender + 1 → first_number c ≤ number
    → total (accepted ++ c ∷ []) c.sender (first_number c) k ≡ total (accepted ++ c ∷ []) c.sender number k
total_stays accepted c number k some next le =
    let before = total_past accepted c.sender (first_number c) number k some (omega (arith, next)) (omega (arith, next, le)) in
    omega (
      arith,
      before,
      sum_by_push (growth_of c.sender (first_number c) k) accepted c,
      growth_of-own c.sender (first_number c) k c refl (omega arith),
      sum_by_push (growth_of c.sender number k) accepted c,
      growth_of-own c.sender number k c refl le,
    )

-- so their times differ in the sender's field alone, which is the number
later_time : (size : ℕ) (accepted : List CastFields) (c : CastFields) (number : ℕ) → c.sender < size → CarrySome accepted → first_number c ≡ last_in accepted c.sender + 1 → first_number c ≤ number
    → slice_set (expanded_time size (accepted ++ c ∷ []) c.sender (first_number c)) c.sender number ≡ expanded_time size (accepted ++ c ∷ []) c.sender number
later_time size accepted c number member some next le =
    let casts : List CastFields = accepted ++ c ∷ [] in
    let first : List ℕ = expanded_time size casts c.sender (first_number c) in
    let later : List ℕ = expanded_time size casts c.sender number in
    let first_size : length first ≡ size = length-map-range_with_len (expanded_field casts c.sender (first_number c)) 0 size in
    let later_size : length later ≡ size = length-map-range_with_len (expanded_field casts c.sender number) 0 size in
    let moved : List ℕ = slice_set first c.sender number in
    let moved_size : length moved ≡ size = length-set first c.sender number ∙ first_size in
    ext_get_or 0 moved later (moved_size ∙ sym later_size) (λ k lt.
    let in_size : k < size = omega (arith, lt, moved_size) in
    let left : field first k ≡ expanded_field casts c.sender (first_number c) k = get_or-map-range_with_len (expanded_field casts c.sender (first_number c)) 0 size k k 0 in_size (omega arith) in
    let right : field later k ≡ expanded_field casts c.sender number k = get_or-map-range_with_len (expanded_field casts c.sender number) 0 size k k 0 in_size (omega arith) in
    elim (cases_eq k c.sender) [
      | inl h ↦ ap (field moved) h ∙ get_or-set_same first c.sender number 0 (omega (arith, first_size, member)) ∙ sym (right ∙ rw (eq-eqb k c.sender h) refl)
      | inr ne ↦
          let here : expanded_field casts c.sender (first_number c) k ≡ min greatest (total casts c.sender (first_number c) k) = rw (ne_eqb k c.sender ne) refl in
          let there : expanded_field casts c.sender number k ≡ min greatest (total casts c.sender number k) = rw (ne_eqb k c.sender ne) refl in
          get_or-set_other first c.sender k number 0 ne ∙ left ∙ here ∙ ap (min greatest) (total_stays accepted c number k some next le) ∙ sym (right ∙ there)
    ])

-- ---- one line

pub accepts : (old new : Group) (accepted : List CastFields) (c : CastFields) → c.group ≡ old.number
    → IsKept (length old.kept) accepted old.kept → Expands old.kept c new.time new.kept
    → (accept old.number (length old.kept) accepted c ≡ Ok c) × HasTime (length old.kept) accepted c new
accepts old new accepted c g kept e =
    let size = length old.kept in
    let sum = expanding_is_summing size accepted c new.time old.kept new.kept kept e in
    let members : are_members size c ≡ true = are_members-yes size c e.members in (
      rw (eq-eqb c.group old.number g, members, eq-eqb (first_number c) (last_in accepted c.sender + 1) sum.next) refl,
      record {
        times = λ number le. ap (λ (t : List ℕ). slice_set t c.sender number) sum.sum
            ∙ later_time size accepted c number e.members.sender kept.some sum.next le;
        kept = sum.kept;
      },
    )

pub not_next : (group : ℕ) (accepted : List CastFields) (c : CastFields) (old : List (List ℕ)) (expected found : ℕ) → c.group ≡ group
    → IsKept (length old) accepted old → IsNotNext old c expected found
    → accept group (length old) accepted c ≡ Err (Expand (NotNext expected found))
not_next group accepted c old expected found g kept n =
    let own = kept.own c.sender n.members.sender in
    let members : are_members (length old) c ≡ true = are_members-yes (length old) c n.members in
    let not_it : first_number c ≢ last_in accepted c.sender + 1 = λ h. n.not_next (h ∙ ap (λ (n : ℕ). n + 1) (sym own)) in
    let expected_is : min greatest (last_in accepted c.sender + 1) ≡ expected =
    ap (λ (n : ℕ). min greatest (n + 1)) (sym own) ∙ sym n.expected_is in
    rw (eq-eqb c.group group g, members, ne_eqb (first_number c) (last_in accepted c.sender + 1) not_it, expected_is, sym n.found_is) refl

members_of_all : (size : ℕ) (changes : List Change) → list_all (λ d. ltb d.field size) changes ≡ true → AllByRecursion (λ d. d.field < size) changes
members_of_all size [] h = tt
members_of_all size (d ∷ changes) h =
    let both = and_parts (ltb d.field size) (list_all (λ (d : Change). ltb d.field size) changes) h in
    (ltb-true d.field size both.0, members_of_all size changes both.1)

-- a cast with a member that the group lacks
pub bad_member : (group : ℕ) (accepted : List CastFields) (c : CastFields) (old : List (List ℕ)) → c.group ≡ group → IsStrange old c
    → accept group (length old) accepted c ≡ Err (Expand BadMember)
bad_member group accepted c old g strange = go (are_members (length old) c) refl
  where
    go : (b : Bool) → are_members (length old) c ≡ b → accept group (length old) accepted c ≡ Err (Expand BadMember)
    go false is = rw (eq-eqb c.group group g, is) refl
    go true is =
        let both = and_parts (ltb c.sender (length old)) (list_all (λ (d : Change). ltb d.field (length old)) c.changes) is in
        absurd (strange (record {
          sender = ltb-true c.sender (length old) both.0;
          changes = All-from_recursion (λ (d : Change). d.field < length old) c.changes (members_of_all (length old) c.changes both.1);
        }))

-- a cast that the expander refuses
abbrev pub failed : ExpandFault → Result (Unit {0}) ExpandFault
failed fault = Err fault

pub refuses : (fault : ExpandFault) (old : Group) (accepted : List CastFields) (c : CastFields) → c.group ≡ old.number
    → IsKept (length old.kept) accepted old.kept → ((failed fault ≡ Err BadMember) ↔ IsStrange old.kept c)
    → ((expected found : ℕ) → (failed fault ≡ Err (NotNext expected found)) ↔ IsNotNext old.kept c expected found)
    → failed fault ≢ Err NoMemory → accept old.number (length old.kept) accepted c ≡ Err (Expand fault)
refuses BadMember old accepted c g kept bad next memory = bad_member old.number accepted c old.kept g (bad.0 refl)
refuses (NotNext expected found) old accepted c g kept bad next memory =
    not_next old.number accepted c old.kept expected found g kept ((next expected found).0 refl)
refuses NoMemory old accepted c g kept bad next memory = absurd (memory refl)

-- what the line is, where its bytes are a cast's
pub outcome_is : (group size : ℕ) (accepted : List CastFields) (line bytes : List ℕ) (c : CastFields) → or_bad_hex (decode_of line) ≡ Ok bytes
    → cast_or_refusal (frame_at bytes) ≡ Ok c → outcome group size accepted line ≡ accept group size accepted c
unfolding outcome
outcome_is group size accepted line bytes c spelled decoded = rw (spelled, decoded) refl
