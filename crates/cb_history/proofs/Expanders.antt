-- The expander's sums are those over all facts.
use Rattle.std.proofs.Common.{◌≡◌, ◌≢◌, ℕ, zero, suc, ◌+◌, ◌<◌, ◌≤◌, true, cond, eqb, ltb, List, [], ◌∷◌, ◌++◌, length, set, min, replicate, refl, sym, ap, subst, ◌∙◌, arith, inl, inr}
use Rattle.std.specs.List.{AllByRecursion, list_all, All}
use Rattle.std.proofs.lemmas.Bool.{cases_eq, eq-eqb, ne_eqb, ltb-true, and_parts}
use Rattle.std.proofs.lemmas.List.{length-set, set-get_or, get_or-set_same, get_or-set_other, get_or-replicate, length-replicate, ext_get_or}
use Rattle.std.proofs.lemmas.List.Elements.{All-nil, All-cons}
use Rattle.std.proofs.lemmas.List.Sums.{sum_by-cons}
use Rattle.std.proofs.lemmas.List.FromFn.{get_or-map-range_with_len, length-map-range_with_len}
use Rattle.cb_times.specs.Order.{field}
use Rattle.cb_frames.specs.declared.frame.Change.{Change}
use Rattle.cb_frames.specs.Fields.{CastFields, CastFrame, Carried, growth_in, first_number, last_number}
use Rattle.cb_frames.proofs.Carried.{carries_some, last_is_first}
use Rattle.cb_diffs.specs.Expansion.{greatest, growth_of, expanded_field, expanded_time, AreMembers, IsNext, CarrySome, Expands}
use Rattle.cb_diffs.specs.Expansion as expander
use Rattle.cb_diffs.proofs.Sums.{growth_of-later, growth_of-own, min_of_min}
use Rattle.cb_history.specs.Group.{Identity}
use Rattle.cb_history.specs.Facts.{Fact, casts_in, messages_in}
use Rattle.cb_history.specs.NameLaws.{NamesDiffer, NumberedFrom}
use Rattle.cb_history.specs.LegalFacts.{AreFactsOf}
use Rattle.cb_history.specs.Singles.{IsSingle, singles_in, AreTheSame}
use Rattle.cb_history.specs.OwnFrameLaws.{IsOfTheGroup}
use Rattle.cb_history.specs.BufferLaws.{IsCastOf}
use Rattle.cb_history.specs.ExpanderLaws.{KeepsTimeOf, NewExpanderKeepsNothing, CastBehindIsNext, ExpanderTellsTheTime, OtherTimesAreKept, KeptTimesStay, OrderChangesNoTime}
use Rattle.cb_history.proofs.Views.{IsIn}
use Rattle.cb_history.proofs.Names.{all_stand}
use Rattle.cb_history.proofs.Loads.{some_at, some_of_all}
use Rattle.cb_history.proofs.Times.{same_over_range, times_stay}
use Rattle.cb_history.proofs.Agreement.{all_at, one_of_a_message, one_begins, nothing_at_zero}
use Rattle.cb_diffs.proofs.Sums.{total}
use Rattle.cb_history.proofs.Runs.{expanded_up_to_the_count}
use Rattle.cb_history.proofs.Buffers.{cast_of_is_in}
use Rattle.cb_history.proofs.Singles.{singles_are_single, singles_are_the_same}
use Rattle.cb_history.proofs.Arrivals.{singles_are_of_the_group}

-- ---- one cast more in the sums

pub one_of_a_name : (casts : List CastFields) (c d : CastFields) → CarrySome casts → NamesDiffer (messages_in casts) → IsIn c casts → IsIn d casts → c.sender ≡ d.sender → first_number c ≡ first_number d → c ≡ d
one_of_a_name casts c d some differ there there' sender first =
    one_of_a_message casts c d (first_number c) some differ there there' sender (omega arith) (carries_some c (some_at casts c some there)) (omega (arith, first)) (omega (arith, first, carries_some d (some_at casts d some there')))

-- ---- what the expander keeps

field_at : (size : ℕ) (casts : List CastFields) (i n k : ℕ) → k < size → field (expanded_time size casts i n) k ≡ expanded_field casts i n k
field_at size casts i n k lt = get_or-map-range_with_len (expanded_field casts i n) 0 size k k 0 lt (omega arith)

length_of : (size : ℕ) (casts : List CastFields) (i n : ℕ) → length (expanded_time size casts i n) ≡ size
length_of size casts i n = length-map-range_with_len (expanded_field casts i n) 0 size

own_is_number : (size : ℕ) (casts : List CastFields) (i n : ℕ) → i < size → field (expanded_time size casts i n) i ≡ n
own_is_number size casts i n lt = field_at size casts i n i lt ∙ rw (eq-eqb i i refl) refl

pub new_expander_keeps_nothing : NewExpanderKeepsNothing
new_expander_keeps_nothing seat facts i are member =
    let size = seat.group.size in
    let casts = casts_in facts in
    let s = all_stand seat facts are.member are.facts_are in
    let none : (k : ℕ) → k < 0 + size → 0 ≡ expanded_field casts i 0 k = λ k lt. elim (cases_eq k i) [
      | inl e ↦ rw (eq-eqb k i e) refl
      | inr ne ↦ let sum = nothing_at_zero casts i k s.some s.positive in rw (ne_eqb k i ne) (omega (arith, sum))
    ] in
    record {
      senders = length-replicate size (replicate size 0);
      time = get_or-replicate size i (replicate size 0) [] member ∙ ext_get_or 0 (replicate size 0) (expanded_time size casts i 0) (length-replicate size 0 ∙ sym (length_of size casts i 0)) (λ k below.
          let lt : k < size = omega (arith, below, length-replicate {A = ℕ} size 0) in
          get_or-replicate size k 0 0 lt ∙ none k (omega (arith, lt)) ∙ sym (field_at size casts i 0 k lt));
    }

fields_are_members : (size : ℕ) (ds : List Change) → list_all (λ d. ltb d.field size) ds ≡ true → All (λ d. d.field < size) ds
fields_are_members size [] all = All-nil (λ (d : Change). d.field < size)
fields_are_members size (d ∷ ds) all =
    let both = and_parts (ltb d.field size) (list_all (λ x. ltb x.field size) ds) all in
    All-cons (λ (x : Change). x.field < size) d ds (ltb-true d.field size both.0) (fields_are_members size ds both.1)

members_of : (seat : Identity) (c : CastFields) → IsOfTheGroup seat.group (CastFrame c) → AreMembers seat.group.size c
members_of seat c of =
    let both = and_parts (ltb c.sender seat.group.size) (list_all (λ d. ltb d.field seat.group.size) c.changes) of.members in
    record { sender = ltb-true c.sender seat.group.size both.0; changes = fields_are_members seat.group.size c.changes both.1 }

single_of_members : (seat : Identity) (facts : List Fact) (c : CastFields) → AreFactsOf seat facts → IsCastOf c (singles_in facts) → AreMembers seat.group.size c
single_of_members seat facts c are there = members_of seat c (singles_are_of_the_group seat facts c are there)

behind_is_next : (seat : Identity) (facts : List Fact) (c : CastFields) (n : ℕ) (kept : List (List ℕ)) → AreMembers seat.group.size c → first_number c ≡ n + 1 → KeepsTimeOf seat facts c.sender n kept → IsNext kept c
behind_is_next seat facts c n kept members behind keeps = record {
  members = subst (λ (size : ℕ). AreMembers size c) (sym keeps.senders) members;
  next = behind ∙ ap (λ (m : ℕ). m + 1) (sym (ap (λ (t : List ℕ). field t c.sender) keeps.time ∙ own_is_number seat.group.size (casts_in facts) c.sender n members.sender));
}

pub single_behind_is_next : CastBehindIsNext
single_behind_is_next seat facts c n kept are there behind keeps = behind_is_next seat facts c n kept (single_of_members seat facts c are there) behind keeps

-- the time that is reported, field by field
reported_field : (size : ℕ) (casts : List CastFields) (c : CastFields) (n k : ℕ) → CarrySome casts → NamesDiffer (messages_in casts) → IsIn c casts → first_number c ≡ n + 1 → k < size → k ≢ c.sender
    → min greatest (field (expanded_time size casts c.sender n) k + growth_in c.changes k) ≡ expanded_field casts c.sender (first_number c) k
reported_field size casts c n k some differ there behind lt ne =
    let before : field (expanded_time size casts c.sender n) k ≡ min greatest (total casts c.sender n k) = field_at size casts c.sender n k lt ∙ rw (ne_eqb k c.sender ne) refl in
    let after : expanded_field casts c.sender (first_number c) k ≡ min greatest (total casts c.sender (n + 1) k) = ap (λ (m : ℕ). expanded_field casts c.sender m k) behind ∙ rw (ne_eqb k c.sender ne) refl in
    let more = one_begins casts c c.sender n k some differ there refl behind in
    ap (λ (v : ℕ). min greatest (v + growth_in c.changes k)) before ∙ min_of_min (total casts c.sender n k) (growth_in c.changes k) ∙ ap (min greatest) (sym more) ∙ sym after

-- a single that is one of some casts
record TellsOver (size : ℕ) (casts : List CastFields) (c : CastFields) (n : ℕ) (time : List ℕ) (new : List (List ℕ)) : Type 0 where
  behind : first_number c ≡ n + 1
  reported : time ≡ expanded_time size casts c.sender (first_number c)
  senders : length new ≡ size
  kept : expander.time_of new c.sender ≡ expanded_time size casts c.sender (last_number c)

tells_over : (size : ℕ) (casts : List CastFields) (c : CastFields) (n : ℕ) (time : List ℕ) (old new : List (List ℕ)) → AllByRecursion IsSingle casts → NamesDiffer (messages_in casts) → IsIn c casts → c.sender < size
    → length old ≡ size → expander.time_of old c.sender ≡ expanded_time size casts c.sender n → Expands old c time new → TellsOver size casts c n time new
tells_over size casts c n time old new all names there member senders keeps e =
    let single : last_number c ≡ first_number c = last_is_first c (all_at IsSingle casts c all there) in
    let behind : first_number c ≡ n + 1 = e.next ∙ ap (λ (m : ℕ). m + 1) (ap (λ (t : List ℕ). field t c.sender) keeps ∙ own_is_number size casts c.sender n member) in
    let old_size : length (expander.time_of old c.sender) ≡ size = ap length keeps ∙ length_of size casts c.sender n in
    let time_size : length time ≡ size = e.grown.size ∙ old_size in
    let reported : time ≡ expanded_time size casts c.sender (first_number c) = ext_get_or 0 time (expanded_time size casts c.sender (first_number c)) (time_size ∙ sym (length_of size casts c.sender (first_number c))) (λ k below.
    let lt : k < size = omega (arith, below, time_size) in
    elim (cases_eq k c.sender) [
      | inl is ↦ ap (field time) is ∙ e.grown.own ∙ sym (ap (field (expanded_time size casts c.sender (first_number c))) is ∙ own_is_number size casts c.sender (first_number c) member)
      | inr ne ↦
          e.grown.others k (omega (arith, lt, old_size)) ne ∙ ap (λ (t : List ℕ). min greatest (field t k + growth_in c.changes k)) keeps
          ∙ reported_field size casts c n k (some_of_all casts all) names there behind lt ne ∙ sym (field_at size casts c.sender (first_number c) k lt)
    ]) in
    let kept : new ≡ set old c.sender time = e.kept ∙ ap (set old c.sender) (ap (set time c.sender) (single ∙ sym e.grown.own) ∙ set-get_or time c.sender 0) in
    record {
      behind = behind;
      reported = reported;
      senders = ap length kept ∙ length-set old c.sender time ∙ senders;
      kept = ap (λ (ts : List (List ℕ)). expander.time_of ts c.sender) kept ∙ get_or-set_same old c.sender time [] (omega (arith, senders, member)) ∙ reported
          ∙ ap (expanded_time size casts c.sender) (sym single);
    }

-- over casts that are the same as those of the facts
tells_the_time : (seat : Identity) (facts : List Fact) (casts : List CastFields) (c : CastFields) (n : ℕ) (time : List ℕ) (old new : List (List ℕ)) → AreFactsOf seat facts → AreTheSame casts (casts_in facts) → AllByRecursion IsSingle casts
    → IsIn c casts → c.sender < seat.group.size → KeepsTimeOf seat facts c.sender n old → Expands old c time new
    → (first_number c ≡ n + 1) × (time ≡ expanded_time seat.group.size (casts_in facts) c.sender (first_number c)) × KeepsTimeOf seat facts c.sender (last_number c) new
tells_the_time seat facts casts c n time old new are same single there member keeps e =
    let size = seat.group.size in
    let s = all_stand seat facts are.member are.facts_are in
    let times = same.times s.some size c.sender in
    let t = tells_over size casts c n time old new single (subst NamesDiffer (sym same.messages) s.names) there member keeps.senders (keeps.time ∙ sym (times n)) e in
    (t.behind, t.reported ∙ times (first_number c), record { senders = t.senders; time = t.kept ∙ times (last_number c) })

pub single_tells_the_time : ExpanderTellsTheTime
single_tells_the_time seat facts c n time old new are there keeps e =
    let within = cast_of_is_in c (singles_in facts) there in
    tells_the_time seat facts (singles_in facts) c n time old new are (singles_are_the_same (casts_in facts)) (singles_are_single (casts_in facts)) within (single_of_members seat facts c are there).sender keeps e

pub other_times_are_kept : OtherTimesAreKept
other_times_are_kept seat facts c i n time old new other keeps e = record {
  senders = ap length e.kept ∙ length-set old c.sender _ ∙ keeps.senders;
  time = ap (λ (ts : List (List ℕ)). expander.time_of ts i) e.kept ∙ get_or-set_other old c.sender i _ [] (λ h. other (sym h)) ∙ keeps.time;
}

pub kept_times_stay : KeptTimesStay
kept_times_stay seat facts more i n kept are expanded keeps =
    let name : Carried = record { sender = i; number = n; payload = [] } in
    let stay = same_over_range (expanded_field (casts_in (facts ++ more)) i n) (expanded_field (casts_in facts) i n) 0 seat.group.size
    (λ k lt. times_stay seat facts more name k are ((expanded_up_to_the_count (casts_in facts) name).1 expanded)) in
    record { senders = keeps.senders; time = keeps.time ∙ sym stay }

-- ---- in the order of the numbers

none_yet : (i a b k : ℕ) (taken : List CastFields) → CarrySome taken → NumberedFrom i b taken → a < b → total taken i a k ≡ 0
none_yet i a b k [] some numbered lt = refl
none_yet i a b k (c ∷ taken) some numbered lt =
    let number = numbered.1 in
    let later = none_yet i a (last_number c + 1) k taken some.1 numbered.2 (omega (arith, number, lt, carries_some c some.0)) in
    omega (arith, sum_by-cons (growth_of i a k) c taken, growth_of-later i a k c (omega (arith, number, lt)), later)

taken_carry_some : (casts taken : List CastFields) → CarrySome casts → AllByRecursion (λ c. IsCastOf c casts) taken → CarrySome taken
taken_carry_some casts [] some are = tt
taken_carry_some casts (c ∷ taken) some are = (some_at casts c some (cast_of_is_in c casts are.0), taken_carry_some casts taken some are.1)

-- what the casts of a sender behind number a add up to, up to the number m, where each carries one message
in_order : (casts taken : List CastFields) (i a n m k : ℕ) → NamesDiffer (messages_in casts) → AllByRecursion IsSingle casts → NumberedFrom i (a + 1) taken → AllByRecursion (λ c. IsCastOf c casts) taken
    → n ≤ length taken → m ≡ a + n → total casts i m k ≡ total casts i a k + total taken i m k
in_order casts taken i a zero m k differ single numbered are few is =
    let at : m ≡ a = omega (arith, is) in
    let none = none_yet i m (a + 1) k taken (taken_carry_some casts taken (some_of_all casts single) are) numbered (omega (arith, is)) in
    let same : total casts i m k ≡ total casts i a k = ap (λ (j : ℕ). total casts i j k) at in
    omega (arith, none, same)
in_order casts [] i a (suc n) m k differ single numbered are few is = absurd (omega (arith, few))
in_order casts (c ∷ taken) i a (suc n) m k differ single numbered are few is =
    let number = numbered.1 in
    let there = cast_of_is_in c casts are.0 in
    let rest : NumberedFrom i (a + 1 + 1) taken = subst (λ (j : ℕ). NumberedFrom i (j + 1) taken) (last_is_first c (all_at IsSingle casts c single there) ∙ number) numbered.2 in
    let later = in_order casts taken i (a + 1) n m k differ single rest are.1 (omega (arith, few)) (omega (arith, is)) in
    let here : total casts i (a + 1) k ≡ total casts i a k + growth_in c.changes k =
    subst (λ (j : ℕ). total casts j (a + 1) k ≡ total casts j a k + growth_in c.changes k) numbered.0 (one_begins casts c c.sender a k (some_of_all casts single) differ there refl number) in
    omega (arith, later, here, sum_by-cons (growth_of i m k) c taken, growth_of-own i m k c numbered.0 (omega (arith, number, is)))

pub order_changes_no_time : OrderChangesNoTime
order_changes_no_time seat facts taken i n k are numbered all few =
    let s = all_stand seat facts are.member are.facts_are in
    let same = singles_are_the_same (casts_in facts) in
    let sums = in_order (singles_in facts) taken i 0 n n k (subst NamesDiffer (sym same.messages) s.names) (singles_are_single (casts_in facts)) numbered all few (omega arith) in
    let none = nothing_at_zero (singles_in facts) i k (some_of_all (singles_in facts) (singles_are_single (casts_in facts))) (λ m there. s.positive m (subst (IsIn m) same.messages there)) in
    let sum : total taken i n k ≡ total (singles_in facts) i n k = omega (arith, sums, none) in
    ap (λ (t : ℕ). cond (eqb k i) n (min greatest t)) sum ∙ same.fields s.some i n k
