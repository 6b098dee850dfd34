-- The times of a burst's messages, and the reception once it is taken in order: each message has the first one's time with its own number.
use Rattle.std.proofs.Common.{◌≡◌, ◌≢◌, ◌⊎◌, ℕ, zero, suc, ◌+◌, ◌-◌, ◌<◌, ◌≤◌, ltb, true, List, [], ◌∷◌, ◌++◌, length, set, min, None, Some, refl, sym, ap, subst, ◌∙◌, arith, inl, inr, All, slice_get}
use Rattle.std.specs.FinMap as fin
use Rattle.std.specs.List.{list_all}
use Rattle.std.specs.declared.vec.Vec.{Vec}
use Rattle.std.specs.declared.alloc.Global.{Global}
use Rattle.std.proofs.lemmas.Bool.{cases_eq, cases_lt, eq-eqb, ne_eqb, ltb-true, and_parts}
use Rattle.std.proofs.lemmas.List.{length-set, get_or-set_same, get_or-set_other, ext_get_or}
use Rattle.std.proofs.lemmas.List.Elements.{All-nil, All-cons}
use Rattle.std.proofs.lemmas.List.Sums.{sum_by-cons}
use Rattle.std.proofs.lemmas.List.FromFn.{length-map-range_with_len}
use Rattle.cb_times.specs.Order.{field}
use Rattle.cb_frames.specs.declared.frame.Change.{Change}
use Rattle.cb_frames.specs.Fields.{IsSome, CastFields, Carried, messages_of, first_number, last_number, growth_in}
use Rattle.cb_frames.proofs.Carried.{carried_is_of_cast, carries_some, one_has_some}
use Rattle.cb_delay.specs.declared.message.Message.{Message}
use Rattle.cb_diffs.specs.Expansion.{greatest, growth_of, expanded_field, expanded_time, time_of, CarrySome, Expands, IsGrown, IsNext}
use Rattle.cb_diffs.proofs.Sums.{total, growth_of-other, growth_of-later, growth_of-own, min_of_min}
use Rattle.cb_gaps.specs.Buffer.{Buffer, Covers, WouldComeOut}
use Rattle.cb_gaps.proofs.Passing.{is_not_kept}
use Rattle.cb_history.specs.Group.{Identity}
use Rattle.cb_history.specs.Facts.{Fact, CastReceived, casts_in, messages_in, is_there}
use Rattle.cb_history.specs.View.{message_in}
use Rattle.cb_history.specs.Known.{expanded_count}
use Rattle.cb_history.specs.NameLaws.{NamesDiffer}
use Rattle.cb_history.specs.LegalFacts.{AreFactsOf}
use Rattle.cb_history.specs.BufferLaws.{HoldsWhatWaits, IsWaiting}
use Rattle.cb_history.specs.ExpanderLaws.{KeepsTimeOf}
use Rattle.cb_history.specs.Singles.{singles_in}
use Rattle.cb_history.proofs.Views.{IsIn, casts_in-append}
use Rattle.cb_history.proofs.Lists.{in_back}
use Rattle.cb_history.proofs.Loads.{some_at}
use Rattle.cb_history.proofs.Names.{StandsAt, all_stand}
use Rattle.cb_history.proofs.Prefixes.{last_fact_is_a_step}
use Rattle.cb_history.proofs.Agreement.{one_begins, one_of_a_message}
use Rattle.cb_history.proofs.Buffers.{cast_of_is_in, covered_is_there, received_is_there, other_singles_do_not_wait}
use Rattle.cb_history.proofs.Delivering.{in_field}
use Rattle.cb_history.proofs.Expanders.{kept_times_stay, other_times_are_kept}
use Rattle.cb_history.proofs.Runs.{there_push, others_expand_nothing}
use Rattle.cb_history.proofs.Singles.{single_among, singles_are_the_same}
use Rattle.cb_member.specs.declared.reception.Reception.{Reception}
use Rattle.cb_member.specs.Reception.{HasReceivedAll, spares_in}
use Rattle.cb_member.specs.Passing.{IsInOrder, carried_at}
use Rattle.cb_member.proofs.Receiving.{set_at, singles_with_cast}
use Rattle.cb_member.proofs.TakingIn.{of_member, of_other, would_expand}

-- ---- between the messages of a burst no field grows but the sender's own

-- a cast that begins elsewhere adds as much to the next message's time as to the one before
same_growth : (sender n k : ℕ) (c : CastFields) → (c.sender ≡ sender → first_number c ≡ n + 1 → ⊥) → growth_of sender (n + 1) k c ≡ growth_of sender n k c
same_growth sender n k c other =
    elim (cases_eq c.sender sender) [
      | inr ne ↦ growth_of-other sender (n + 1) k c ne ∙ sym (growth_of-other sender n k c ne)
      | inl e ↦ elim (cases_lt n (first_number c)) [
        | inl lt ↦
            let ne : first_number c ≢ n + 1 = other e in
            growth_of-later sender (n + 1) k c (omega (arith, lt, ne)) ∙ sym (growth_of-later sender n k c lt)
        | inr le ↦ growth_of-own sender (n + 1) k c e (omega (arith, le)) ∙ sym (growth_of-own sender n k c e le)
      ]
    ]

none_begins : (casts : List CastFields) (sender n k : ℕ) → ((d : CastFields) → IsIn d casts → d.sender ≡ sender → first_number d ≡ n + 1 → ⊥) → total casts sender (n + 1) k ≡ total casts sender n k
none_begins [] sender n k none = refl
none_begins (c ∷ casts) sender n k none =
    omega (arith, sum_by-cons (growth_of sender (n + 1) k) c casts, sum_by-cons (growth_of sender n k) c casts, same_growth sender n k c (none c (inl refl)), none_begins casts sender n k (λ d later. none d (inr later)))

-- where a cast carries the next message and begins before it, none begins with it
goes_on : (casts : List CastFields) (c : CastFields) (n k : ℕ) → CarrySome casts → NamesDiffer (messages_in casts) → IsIn c casts → first_number c ≤ n → n + 1 ≤ last_number c
    → total casts c.sender (n + 1) k ≡ total casts c.sender n k
goes_on casts c n k some differ there low high =
    none_begins casts c.sender n k (λ d within of begins.
    let same : c ≡ d = one_of_a_message casts c d (n + 1) some differ there within (sym of) (omega (arith, low)) high (omega (arith, begins)) (omega (arith, begins, carries_some d (some_at casts d some within))) in
    let at : first_number c ≡ first_number d = ap first_number same in
    omega (arith, at, begins, low))

stays_from : (casts : List CastFields) (c : CastFields) (j k : ℕ) → CarrySome casts → NamesDiffer (messages_in casts) → IsIn c casts → first_number c + j ≤ last_number c
    → total casts c.sender (first_number c + j) k ≡ total casts c.sender (first_number c) k
stays_from casts c zero k some differ there upto = let none : first_number c + 0 ≡ first_number c = omega arith in ap (λ (n : ℕ). total casts c.sender n k) none
stays_from casts c (suc j) k some differ there upto =
    let more : first_number c + suc j ≡ first_number c + j + 1 = omega arith in
    ap (λ (n : ℕ). total casts c.sender n k) more
    ∙ goes_on casts c (first_number c + j) k some differ there (omega arith) (omega (arith, upto))
    ∙ stays_from casts c j k some differ there (omega (arith, upto))

fields_are_members : (size : ℕ) (ds : List Change) → list_all (λ d. ltb d.field size) ds ≡ true → All (λ d. d.field < size) ds
fields_are_members size [] all = All-nil (λ (d : Change). d.field < size)
fields_are_members size (d ∷ ds) all =
    let both = and_parts (ltb d.field size) (list_all (λ x. ltb x.field size) ds) all in
    All-cons (λ (x : Change). x.field < size) d ds (ltb-true d.field size both.0) (fields_are_members size ds both.1)

-- ---- the times

-- what is kept is the time of the sender's message before the burst, and `time` is what grows from it
module _ (seat : Identity) (facts : List Fact) (c : CastFields) (are : AreFactsOf seat (facts ++ CastReceived c ∷ [])) (kept : List (List ℕ))
    (keeps : KeepsTimeOf seat facts c.sender (expanded_count (casts_in facts) c.sender) kept) (behind : first_number c ≡ expanded_count (casts_in facts) c.sender + 1) where
  abbrev low : ℕ
  low = expanded_count (casts_in facts) c.sender

  abbrev size : ℕ
  size = seat.group.size

  abbrev casts : List CastFields
  casts = casts_in (facts ++ CastReceived c ∷ [])

  stands : StandsAt seat (facts ++ CastReceived c ∷ [])
  stands = all_stand seat (facts ++ CastReceived c ∷ []) are.member are.facts_are

  it_is_there : IsIn c (casts_in (facts ++ CastReceived c ∷ []))
  it_is_there = subst (IsIn c) (sym (casts_in-append facts (CastReceived c))) (in_back c (casts_in facts) (c ∷ []) (inl refl))

  member : c.sender < seat.group.size
  member = of_member seat facts c are

  now : KeepsTimeOf seat (facts ++ CastReceived c ∷ []) c.sender low kept
  now = kept_times_stay seat facts (CastReceived c ∷ []) c.sender low kept are (omega arith) keeps

  kept_long : length (time_of kept c.sender) ≡ seat.group.size
  kept_long = ap (λ (t : List ℕ). length t) now.time ∙ length-map-range_with_len (expanded_field casts c.sender low) 0 size

  -- the burst is the sender's next frame
  pub burst_is_next : IsNext kept c
  burst_is_next =
      let both = and_parts (ltb c.sender seat.group.size) (list_all (λ d. ltb d.field seat.group.size) c.changes) (last_fact_is_a_step seat facts (CastReceived c) are).taken.members in
      let own : field (time_of kept c.sender) c.sender ≡ low = ap (λ (t : List ℕ). field t c.sender) now.time ∙ in_field size (expanded_field casts c.sender low) c.sender member ∙ rw (eq-eqb c.sender c.sender refl) refl in
      record {
        members = record {
          sender = omega (arith, member, now.senders);
          changes = subst (λ (n : ℕ). All (λ (d : Change). d.field < n) c.changes) (sym now.senders) (fields_are_members seat.group.size c.changes both.1);
        };
        next = behind ∙ ap (λ (n : ℕ). n + 1) (sym own);
      }

  module _ (time : List ℕ) (grown : IsGrown (time_of kept c.sender) c time) where
    pub time_long : length time ≡ seat.group.size
    time_long = grown.size ∙ kept_long

    first_field : (k : ℕ) → k < seat.group.size → k ≢ c.sender → field time k ≡ min greatest (total casts c.sender (first_number c) k)
    first_field k lt ne =
        let before : field (time_of kept c.sender) k ≡ min greatest (total casts c.sender low k) =
        ap (λ (t : List ℕ). field t k) now.time ∙ in_field size (expanded_field casts c.sender low) k lt ∙ rw (ne_eqb k c.sender ne) refl in
        let more = one_begins casts c c.sender low k stands.some stands.names it_is_there refl behind in
        grown.others k (omega (arith, lt, kept_long)) ne
        ∙ ap (λ (v : ℕ). min greatest (v + growth_in c.changes k)) before ∙ min_of_min (total casts c.sender low k) (growth_in c.changes k)
        ∙ ap (min greatest) (sym more) ∙ ap (λ (n : ℕ). min greatest (total casts c.sender n k)) (sym behind)

    later_field : (n k : ℕ) → first_number c ≤ n → n ≤ last_number c → k < seat.group.size → k ≢ c.sender → field time k ≡ expanded_field casts c.sender n k
    later_field n k from upto lt ne =
        let more : first_number c + (n - first_number c) ≡ n = omega (arith, from) in
        let same : total casts c.sender n k ≡ total casts c.sender (first_number c) k =
        ap (λ (j : ℕ). total casts c.sender j k) (sym more) ∙ stays_from casts c (n - first_number c) k stands.some stands.names it_is_there (omega (arith, from, upto)) in
        let late : expanded_field casts c.sender n k ≡ min greatest (total casts c.sender n k) = rw (ne_eqb k c.sender ne) refl in
        first_field k lt ne ∙ ap (min greatest) (sym same) ∙ sym late

    pub burst_time : (n : ℕ) → first_number c ≤ n → n ≤ last_number c → set time c.sender n ≡ expanded_time seat.group.size (casts_in (facts ++ CastReceived c ∷ [])) c.sender n
    burst_time n from upto =
        ext_get_or 0 (set time c.sender n) (expanded_time size casts c.sender n) (length-set time c.sender n ∙ time_long ∙ sym (length-map-range_with_len (expanded_field casts c.sender n) 0 size)) (λ k below.
        let lt : k < seat.group.size = omega (arith, below, length-set time c.sender n, time_long) in
        elim (cases_eq k c.sender) [
          | inl e ↦
              ap (field (set time c.sender n)) e ∙ get_or-set_same time c.sender n 0 (omega (arith, member, time_long))
              ∙ sym (ap (field (expanded_time size casts c.sender n)) e ∙ in_field size (expanded_field casts c.sender n) c.sender member ∙ rw (eq-eqb c.sender c.sender refl) refl)
          | inr ne ↦ get_or-set_other time c.sender k n 0 ne ∙ later_field n k from upto lt ne ∙ sym (in_field size (expanded_field casts c.sender n) k lt)
        ])

    -- each message of the burst is the one that the casts tell
    pub burst_message : (m : Carried) → IsIn m (messages_of c) → carried_at time m ≡ message_in seat.group.size (casts_in (facts ++ CastReceived c ∷ [])) m
    burst_message m there =
        let of = carried_is_of_cast c m there in
        let stamp : set time m.sender m.number ≡ expanded_time seat.group.size (casts_in (facts ++ CastReceived c ∷ [])) m.sender m.number =
        subst (λ (i : ℕ). set time i m.number ≡ expanded_time seat.group.size (casts_in (facts ++ CastReceived c ∷ [])) i m.number) (sym of.sender_is) (burst_time m.number of.low of.high) in
        ap (λ (t : List ℕ). let x : Message = record { name = record { sender = m.sender; number = m.number }; time = t; payload = m.payload } in x) stamp

-- ---- the burst comes in order

module _ (c : CastFields) (old : Reception) (in_order : IsInOrder c.sender (first_number c) old) (seat : Identity) (facts : List Fact) (are : AreFactsOf seat (facts ++ CastReceived c ∷ [])) (all : HasReceivedAll seat facts old) where
  abbrev before : Buffer
  before = in_order.buffer

  abbrev after : Buffer
  after = record in_order.buffer { taken = last_number c }

  abbrev with_it : List Fact
  with_it = facts ++ CastReceived c ∷ []

  other : c.sender ≢ seat.me
  other = of_other seat facts c are

  its_member : c.sender < seat.group.size
  its_member = of_member seat facts c are

  some : IsSome c.load
  some = (last_fact_is_a_step seat facts (CastReceived c) are).load.some

  filled : first_number c ≤ last_number c
  filled = carries_some c some

  waits_before : HoldsWhatWaits (singles_in facts) c.sender before
  waits_before = all.waits c.sender before in_order.at other

  none_kept : (number : ℕ) → fin.get before.kept number ≡ None
  none_kept number = is_not_kept before c in_order.in_order number

  so_far : before.taken ≡ expanded_count (casts_in facts) c.sender
  so_far = all.taken_are c.sender before in_order.at other

  pub comes_behind : first_number c ≡ expanded_count (casts_in facts) c.sender + 1
  comes_behind = in_order.in_order.follows ∙ ap (λ (n : ℕ). n + 1) so_far

  pub its_kept_time : KeepsTimeOf seat facts c.sender (expanded_count (casts_in facts) c.sender) old.expander
  its_kept_time = all.times c.sender its_member other

  not_some : (number : ℕ) (d : CastFields) → fin.get before.kept number ≡ Some d → ⊥
  not_some number d kept = absurd (let no : None ≡ Some d = sym (none_kept number) ∙ kept in cc)

  row : WouldComeOut before (first_number c) (last_number c) (last_number c - before.taken)
  row =
      let next = in_order.in_order.follows in
      record {
        begins = omega arith;
        each = λ k above upto. inr (omega (arith, next, above), omega (arith, next, filled, upto));
        ends = λ there. elim there [
          | inl kept ↦ not_some (first_number kept.cast) kept.cast kept.kept
          | inr it ↦ let high = it.1 in omega (arith, next, filled, high)
        ];
      }

  pub all_come_out : expanded_count (casts_in (facts ++ CastReceived c ∷ [])) c.sender ≡ last_number c
  all_come_out =
      let more = would_expand c.sender (first_number c) (last_number c) old before (last_number c - before.taken) in_order.at row seat facts c are refl refl refl all in
      let next = in_order.in_order.follows in
      omega (arith, more, so_far, next, filled)

  -- none of the sender's is there above the burst
  none_above : (d : CastFields) (number : ℕ) → IsWaiting (singles_in with_it) c.sender (last_number c) number d → ⊥
  none_above d number w =
      let in_singles = cast_of_is_in d (singles_in with_it) w.there in
      let single = single_among (casts_in with_it) d in_singles in
      let above = w.not_taken in
      let is = w.number_is in
      let covers : Covers d number = (omega (arith, is), omega (arith, is, carries_some d (one_has_some d.load single))) in
      let there : is_there (singles_in with_it) c.sender number ≡ true = covered_is_there (singles_in with_it) d c.sender number (one_has_some d.load single) in_singles w.sender_is covers in
      let now_there : is_there (casts_in with_it) c.sender number ≡ true = sym ((singles_are_the_same (casts_in with_it)).there c.sender number) ∙ there in
      let next = in_order.in_order.follows in
      elim (there_push (casts_in facts) c c.sender number (subst (λ (cs : List CastFields). is_there cs c.sender number ≡ true) (casts_in-append facts (CastReceived c)) now_there)) [
        | inl was ↦
            let its : is_there (singles_in facts) c.sender number ≡ true = (singles_are_the_same (casts_in facts)).there c.sender number ∙ was in
            elim ((received_is_there (singles_in facts) c.sender number before waits_before (omega (arith, above))).1 its) [
              | inl taken ↦ omega (arith, taken, next, filled, above)
              | inr kept ↦ not_some (first_number kept.cast) kept.cast kept.kept
            ]
        | inr it ↦ let high = it.2 in omega (arith, high, above)
      ]

  last_holds : HoldsWhatWaits (singles_in with_it) c.sender after
  last_holds = record {
    single = λ d there of. single_among (casts_in with_it) d (cast_of_is_in d (singles_in with_it) there);
    taken = let upto : last_number c ≤ expanded_count (singles_in with_it) c.sender = omega (arith, all_come_out, (singles_are_the_same (casts_in with_it)).counts c.sender) in upto;
    kept = λ number d. (λ kept. absurd (not_some number d kept), λ w. absurd (none_above d number w));
  }

  same_count : (i : ℕ) → i ≢ c.sender → expanded_count (casts_in with_it) i ≡ expanded_count (casts_in facts) i
  same_count i ne = ap (λ (cs : List CastFields). expanded_count cs i) (casts_in-append facts (CastReceived c)) ∙ others_expand_nothing (casts_in facts) c i (λ e. ne (sym e))

  -- the buffer counts all of the burst's messages, and the expander keeps the time of the last one
  module _ (new : Reception) (time : List ℕ) (buffers : new.buffers.items ≡ set old.buffers.items c.sender after) (spares : new.spares ≡ old.spares) (expands : Expands old.expander c time new.expander) where
    at_now : (i : ℕ) (b : Buffer) → slice_get new.buffers.items i ≡ Some b → ((i ≡ c.sender) × (b ≡ after)) ⊎ ((i ≢ c.sender) × (slice_get old.buffers.items i ≡ Some b))
    at_now i b at = set_at old.buffers.items c.sender i after b (ap (λ (bs : List Buffer). slice_get bs i) (sym buffers) ∙ at)

    same_spares : spares_in new ≡ spares_in old
    same_spares = ap (λ (v : Vec (Vec (List ℕ) Global) Global). spares_in (record old { spares = v })) spares

    its_time : KeepsTimeOf seat with_it c.sender (expanded_count (casts_in with_it) c.sender) new.expander
    its_time = record {
      senders = ap (λ (ts : List (List ℕ)). length ts) expands.kept ∙ length-set old.expander c.sender _ ∙ its_kept_time.senders;
      time = ap (λ (ts : List (List ℕ)). time_of ts c.sender) expands.kept
          ∙ get_or-set_same old.expander c.sender (set time c.sender (last_number c)) [] (omega (arith, its_member, its_kept_time.senders))
          ∙ burst_time seat facts c are old.expander its_kept_time comes_behind time expands.grown (last_number c) filled (omega arith)
          ∙ ap (expanded_time seat.group.size (casts_in with_it) c.sender) (sym all_come_out);
    }

    pub burst_received : HasReceivedAll seat (facts ++ CastReceived c ∷ []) new
    burst_received = record {
      senders = ap (λ (bs : List Buffer). length bs) buffers ∙ length-set old.buffers.items c.sender after ∙ all.senders;
      waits = λ i b at not_me. elim (at_now i b at) [
        | inl here ↦ subst (λ (k : ℕ). HoldsWhatWaits (singles_in with_it) k b) (sym here.0) (subst (HoldsWhatWaits (singles_in with_it) c.sender) (sym here.1) last_holds)
        | inr elsewhere ↦ subst (λ (cs : List CastFields). HoldsWhatWaits cs i b) (sym (singles_with_cast facts (CastReceived c) c refl))
            (other_singles_do_not_wait (singles_in facts) i c b (all.waits i b elsewhere.1 not_me) (λ e. elsewhere.0 (sym e)))
      ];
      taken_are = λ i b at not_me. elim (at_now i b at) [
        | inl here ↦ ap (λ (x : Buffer). x.taken) here.1 ∙ sym (ap (expanded_count (casts_in with_it)) here.0 ∙ all_come_out)
        | inr elsewhere ↦ all.taken_are i b elsewhere.1 not_me ∙ sym (same_count i elsewhere.0)
      ];
      windows = λ i b at. elim (at_now i b at) [
        | inl here ↦ ap (λ (x : Buffer). x.window) here.1 ∙ all.windows c.sender before in_order.at
        | inr elsewhere ↦ all.windows i b elsewhere.1
      ];
      times = λ i lt not_me. elim (cases_eq i c.sender) [
        | inl e ↦ subst (λ (k : ℕ). KeepsTimeOf seat with_it k (expanded_count (casts_in with_it) k) new.expander) (sym e) its_time
        | inr ne ↦ subst (λ (n : ℕ). KeepsTimeOf seat with_it i n new.expander) (sym (same_count i ne))
            (other_times_are_kept seat with_it c i (expanded_count (casts_in facts) i) time old.expander new.expander (λ h. ne (sym h))
            (kept_times_stay seat facts (CastReceived c ∷ []) i (expanded_count (casts_in facts) i) old.expander are (omega arith) (all.times i lt not_me)) expands)
      ];
      stacks = ap (λ (xs : List (List (List ℕ))). length xs) same_spares ∙ all.stacks;
      spares = λ i b xs at at_spares.
          let there : slice_get (spares_in old) i ≡ Some xs = ap (λ (all_spares : List (List (List ℕ))). slice_get all_spares i) (sym same_spares) ∙ at_spares in
          elim (at_now i b at) [
            | inl here ↦
                let was = all.spares c.sender before xs in_order.at (ap (slice_get (spares_in old)) (sym here.0) ∙ there) in
                record { count = was.count ∙ ap (λ (x : Buffer). fin.len x.kept) (sym here.1); sizes = was.sizes }
            | inr elsewhere ↦ all.spares i b xs elsewhere.1 there
          ];
    }
