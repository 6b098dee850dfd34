-- What the rules say of a received cast.
use Rattle.std.proofs.Common.{◌≡◌, ◌≢◌, ℕ, ◌+◌, ◌<◌, ◌≤◌, inl, inr, true, false, ltb, eqb, List, [], ◌∷◌, ◌++◌, length, Some, Result, Ok, Err, refl, sym, ap, subst, ◌∙◌, ◌↔◌, arith}
use Rattle.std.specs.Prelude.{slice_get}
use Rattle.std.specs.List.{list_all}
use Rattle.std.proofs.Math.Bool.{and-false}
use Rattle.std.proofs.lemmas.Bool.{both_ways, cond_both, false_from_ne_true, and_parts, eq-eqb, ne_eqb, lt-ltb, le-ltb, ltb-true, ltb-false, le-leb, lt-leb}
use Rattle.cb_times.specs.Order.{field}
use Rattle.cb_frames.specs.declared.frame.TheConstants.{LAST_NUMBER}
use Rattle.cb_frames.specs.Fields.{IsSome, CastFields, CastFrame, messages_of, first_number, last_number}
use Rattle.cb_gaps.specs.declared.buffer.Admission.{Admission}
use Rattle.cb_gaps.specs.declared.buffer.Admission.TheVariants.{Kept, Repeat, Overlap, TooFar}
use Rattle.cb_gaps.specs.Buffer.{Buffer, Admits, IsLacking, IsReceived, AreLacking, AreReceived, ArePartlyReceived}
use Rattle.cb_history.specs.declared.answer.ArriveRefusal.{ArriveRefusal}
use Rattle.cb_history.specs.declared.answer.ArriveRefusal.TheVariants as arrivals
use Rattle.cb_frames.proofs.Carried.{carried_is_of_cast, carries_some, each_number_is_carried}
use Rattle.cb_history.specs.Group.{Identity}
use Rattle.cb_history.specs.Facts.{Fact, CastReceived, casts_in, is_there}
use Rattle.cb_history.specs.Answers.{are_members, delivered}
use Rattle.cb_history.specs.Answers as says
use Rattle.cb_history.specs.LegalFacts.{AreFactsOf, OneFactMore}
use Rattle.cb_history.specs.Load.{FitsFrame}
use Rattle.cb_history.specs.Singles.{singles_in}
use Rattle.cb_history.proofs.Buffers.{received_is_there}
use Rattle.cb_history.proofs.Lists.{all_of, each_of, any_of, one_of}
use Rattle.cb_history.proofs.Runs.{expanded_are_there, delivered_is_expanded}
use Rattle.cb_history.proofs.Singles.{singles_are_the_same}
use Rattle.cb_member.specs.declared.arrival.cast.Judged.{Judged}
use Rattle.cb_member.specs.declared.arrival.cast.Judged.TheVariants as judged
use Rattle.cb_member.specs.declared.state.State.{State}
use Rattle.cb_member.specs.State.{IsState, Keeps}
use Rattle.cb_member.specs.Arriving.{Answers, Changes, own_verdict, FollowsFrom, JudgesCast}
use Rattle.cb_member.proofs.Reading.{time_at}

pub other_group : (state : State) (c : CastFields) → c.group ≢ state.seat.group.number → JudgesCast state c (Err arrivals.OtherGroup)
other_group state c other facts are k limit entries = rw (ne_eqb c.group state.seat.group.number other) refl

pub bad_member : (state : State) (c : CastFields) → c.group ≡ state.seat.group.number → are_members state.seat.group.size (CastFrame c) ≡ false → JudgesCast state c (Err arrivals.BadMember)
bad_member state c group none facts are k limit entries = rw (eq-eqb c.group state.seat.group.number group, none) refl

-- a cast all of whose messages are there is a repeat
all_there : (facts : List Fact) (c : CastFields) → ((n : ℕ) → first_number c ≤ n → n ≤ last_number c → is_there (casts_in facts) c.sender n ≡ true) → says.is_repeat facts (CastFrame c) ≡ true
all_there facts c each = all_of (λ m. is_there (casts_in facts) m.sender m.number) (messages_of c) (λ m there.
    let of = carried_is_of_cast c m there in
    ap (λ (i : ℕ). is_there (casts_in facts) i m.number) of.sender_is ∙ each m.number of.low of.high)

-- one of which a message is not there is none
one_not_there : (facts : List Fact) (c : CastFields) (n : ℕ) → IsSome c.load → first_number c ≤ n → n ≤ last_number c → is_there (casts_in facts) c.sender n ≡ false → says.is_repeat facts (CastFrame c) ≡ false
one_not_there facts c n some low high absent = false_from_ne_true (says.is_repeat facts (CastFrame c)) (λ repeat.
    let m = each_number_is_carried c n some low high in
    let there = each_of (λ x. is_there (casts_in facts) x.sender x.number) (messages_of c) m.found repeat m.there in
    let here : is_there (casts_in facts) m.found.sender m.found.number ≡ is_there (casts_in facts) c.sender n =
    ap (λ (i : ℕ). is_there (casts_in facts) i m.found.number) m.sender_is ∙ ap (is_there (casts_in facts) c.sender) m.number_is in
    both_ways (is_there (casts_in facts) c.sender n) absent (sym here ∙ there))

-- where it has another one that is there, it overlaps
one_there : (facts : List Fact) (c : CastFields) (n : ℕ) → IsSome c.load → first_number c ≤ n → n ≤ last_number c → is_there (casts_in facts) c.sender n ≡ true → says.is_overlap facts (CastFrame c) ≡ true
one_there facts c n some low high there =
    let m = each_number_is_carried c n some low high in
    any_of (λ x. is_there (casts_in facts) x.sender x.number) (messages_of c) m.found m.there
    (ap (λ (i : ℕ). is_there (casts_in facts) i m.found.number) m.sender_is ∙ ap (is_there (casts_in facts) c.sender) m.number_is ∙ there)

-- and where none is, it does not
none_there : (facts : List Fact) (c : CastFields) → ((n : ℕ) → first_number c ≤ n → n ≤ last_number c → is_there (casts_in facts) c.sender n ≡ false) → says.is_overlap facts (CastFrame c) ≡ false
none_there facts c each = false_from_ne_true (says.is_overlap facts (CastFrame c)) (λ some.
    let m = one_of (λ x. is_there (casts_in facts) x.sender x.number) (messages_of c) some in
    let of = carried_is_of_cast c m.0 m.1 in
    both_ways (is_there (casts_in facts) m.0.sender m.0.number) (ap (λ (i : ℕ). is_there (casts_in facts) i m.0.number) of.sender_is ∙ each m.0.number of.low of.high) m.2)

module _ (state : State) (c : CastFields) (fits : FitsFrame c.load) (numbered : 1 ≤ first_number c) (group : c.group ≡ state.seat.group.number) (members : are_members state.seat.group.size (CastFrame c) ≡ true) where
  abbrev seat : Identity
  seat = state.seat

  pub is_member : c.sender < seat.group.size
  is_member = ltb-true c.sender seat.group.size (and_parts (ltb c.sender seat.group.size) (list_all (λ d. ltb d.field seat.group.size) c.changes) members).0

  module _ (facts : List Fact) (are : AreFactsOf seat facts) (k : Keeps facts state) where
    counted : field state.delivery.time c.sender ≡ delivered seat facts c.sender
    counted = time_at seat facts state.delivery c.sender k.delivered is_member

    is_own_repeat : c.sender ≡ seat.me → last_number c ≤ delivered seat facts c.sender → Answers seat facts (CastFrame c) (Ok says.Repeat)
    is_own_repeat own reached limit entries =
        let made : last_number c ≤ delivered seat facts seat.me = subst (λ (i : ℕ). last_number c ≤ delivered seat facts i) own reached in
        let there = all_there facts c (λ n low high. subst (λ (i : ℕ). is_there (casts_in facts) i n ≡ true) (sym own)
        (expanded_are_there (casts_in facts) seat.me n (omega (arith, numbered, low)) (omega (arith, high, made, (delivered_is_expanded seat facts are).1)))) in
        rw (eq-eqb c.group seat.group.number group, members, le-ltb (delivered seat facts seat.me) (last_number c) made, and-false (eqb c.sender seat.me), there) refl

    never_made : c.sender ≡ seat.me → delivered seat facts c.sender < last_number c → Answers seat facts (CastFrame c) (Err arrivals.Impossible)
    never_made own beyond limit entries =
        let not_made : delivered seat facts seat.me < last_number c = subst (λ (i : ℕ). delivered seat facts i < last_number c) own beyond in
        rw (eq-eqb c.group seat.group.number group, members, eq-eqb c.sender seat.me own, lt-ltb (delivered seat facts seat.me) (last_number c) not_made) refl

    module _ (other : c.sender ≢ seat.me) (b : Buffer) (at : slice_get state.reception.buffers.items c.sender ≡ Some b) where
      of_window : b.window ≡ seat.group.window
      of_window = k.received.windows c.sender b at

      received_by : (n : ℕ) → first_number c ≤ n → IsReceived b n ↔ (is_there (singles_in facts) c.sender n ≡ true)
      received_by n low = received_is_there (singles_in facts) c.sender n b (k.received.waits c.sender b at other) (omega (arith, numbered, low))

      there_too : (n : ℕ) → is_there (singles_in facts) c.sender n ≡ is_there (casts_in facts) c.sender n
      there_too n = (singles_are_the_same (casts_in facts)).there c.sender n

      there_is : AreReceived b (first_number c) (last_number c) → says.is_repeat facts (CastFrame c) ≡ true
      there_is received = all_there facts c (λ n low high. sym (there_too n) ∙ (received_by n low).0 (received n low high))

      lacked : (n : ℕ) → first_number c ≤ n → IsLacking b n → is_there (casts_in facts) c.sender n ≡ false
      lacked n low lacking = false_from_ne_true (is_there (casts_in facts) c.sender n) (λ there. elim ((received_by n low).1 (there_too n ∙ there)) [
        | inl taken ↦ let above = lacking.not_taken in omega (arith, taken, above)
        | inr kept ↦ lacking.not_kept kept
      ])

      none_lies_there : AreLacking b (first_number c) (last_number c) → says.is_overlap facts (CastFrame c) ≡ false
      none_lies_there none = none_there facts c (λ n low high. lacked n low (none n low high))

      not_there : AreLacking b (first_number c) (last_number c) → says.is_repeat facts (CastFrame c) ≡ false
      not_there none = one_not_there facts c (first_number c) fits.some (omega arith) (carries_some c fits.some)
          (lacked (first_number c) (omega arith) (none (first_number c) (omega arith) (carries_some c fits.some)))

      is_other_repeat : AreReceived b (first_number c) (last_number c) → Answers seat facts (CastFrame c) (Ok says.Repeat)
      is_other_repeat received limit entries = rw (eq-eqb c.group seat.group.number group, members, ne_eqb c.sender seat.me other, there_is received) refl

      is_overlapping : ArePartlyReceived b (first_number c) (last_number c) → Answers seat facts (CastFrame c) (Err arrivals.Overlap)
      is_overlapping partly limit entries =
          let received = partly.some in
          let lacks = partly.others in
          let there = sym (there_too received.number) ∙ (received_by received.number received.from).0 received.is in
          let overlap = one_there facts c received.number fits.some received.from received.upto there in
          let new = one_not_there facts c lacks.number fits.some lacks.from lacks.upto (lacked lacks.number lacks.from lacks.is) in
          rw (eq-eqb c.group seat.group.number group, members, ne_eqb c.sender seat.me other, new, overlap) refl

      is_beyond : Admits b (field state.delivery.time c.sender) (first_number c) (last_number c) TooFar → Answers seat facts (CastFrame c) (Err arrivals.TooFar)
      is_beyond far limit entries =
          let beyond : delivered seat facts c.sender + seat.group.window < last_number c = omega (arith, far.1, counted, of_window) in
          rw (eq-eqb c.group seat.group.number group, members, ne_eqb c.sender seat.me other, not_there far.0, none_lies_there far.0, lt-ltb (delivered seat facts c.sender + seat.group.window) (last_number c) beyond) refl

      module _ (admitted : Admits b (field state.delivery.time c.sender) (first_number c) (last_number c) Kept) where
        near : ltb (delivered seat facts c.sender + seat.group.window) (last_number c) ≡ false
        near = le-ltb (delivered seat facts c.sender + seat.group.window) (last_number c) (omega (arith, admitted.1, counted, of_window))

        follows : last_number c ≤ LAST_NUMBER → AreFactsOf seat (facts ++ CastReceived c ∷ [])
        follows small = record {
          group = are.group;
          member = are.member;
          facts_are = OneFactMore facts (CastReceived c) are.facts_are (record {
            load = fits;
            numbered = numbered;
            taken = record {
              numbers = small;
              group = group;
              members = members;
              possible = rw (ne_eqb c.sender seat.me other) refl;
              new = not_there admitted.0;
              apart = none_lies_there admitted.0;
              near = near;
              change = refl;
            };
          });
        }

        changes : Changes seat facts (CastFrame c)
        changes = record {
          taken = λ limit entries room.
              rw (eq-eqb c.group seat.group.number group, members, ne_eqb c.sender seat.me other, not_there admitted.0, none_lies_there admitted.0, near, lt-leb limit (length entries) room) refl;
          full = λ limit entries none.
              rw (eq-eqb c.group seat.group.number group, members, ne_eqb c.sender seat.me other, not_there admitted.0, none_lies_there admitted.0, near, le-leb limit (length entries) none) refl;
        }

        upto_taken : field state.delivery.time c.sender ≤ b.taken
        upto_taken = omega (arith, counted, k.received.taken_are c.sender b at other, (delivered_is_expanded seat facts are).0 c.sender)

  pub judges_own : c.sender ≡ seat.me → JudgesCast state c (own_verdict (field state.delivery.time c.sender) (last_number c))
  judges_own own = cond_both (ltb (field state.delivery.time c.sender) (last_number c)) (Err arrivals.Impossible) (Ok judged.Repeat) (JudgesCast state c)
      (λ beyond facts are k.
      let lt = ltb-true (field state.delivery.time c.sender) (last_number c) beyond in
      never_made facts are k own (omega (arith, lt, counted facts are k)))
      (λ reached facts are k.
      let le = ltb-false (field state.delivery.time c.sender) (last_number c) reached in
      is_own_repeat facts are k own (omega (arith, le, counted facts are k)))

  pub judges_other : c.sender ≢ seat.me → (b : Buffer) → slice_get state.reception.buffers.items c.sender ≡ Some b → last_number c ≤ LAST_NUMBER → IsState state
      → (a : Admission) (verdict : Result Judged ArriveRefusal) → Admits b (field state.delivery.time c.sender) (first_number c) (last_number c) a → FollowsFrom a verdict → JudgesCast state c verdict
  judges_other other b at small is_state Overlap verdict partly says_so = subst (JudgesCast state c) (sym says_so) (λ facts are k. is_overlapping facts are k other b at partly)
  judges_other other b at small is_state Repeat verdict received says_so = subst (JudgesCast state c) (sym says_so) (λ facts are k. is_other_repeat facts are k other b at received)
  judges_other other b at small is_state TooFar verdict far says_so = subst (JudgesCast state c) (sym says_so) (λ facts are k. is_beyond facts are k other b at far)
  judges_other other b at small is_state Kept verdict admitted says_so = subst (JudgesCast state c) (sym says_so) (record {
    can = record {
      facts = is_state.facts;
      legal = follows is_state.facts is_state.legal is_state.keeps other b at admitted small;
      keeps = is_state.keeps;
      can_keep = record { buffer = b; at = at; upto_taken = upto_taken is_state.facts is_state.legal is_state.keeps other b at admitted; is_kept = admitted };
    };
    legal = λ facts are k. follows facts are k other b at admitted small;
    changes = λ facts are k. changes facts are k other b at admitted;
  })
