-- A cast that is expanded as soon as it is there: what that does is what keeping it, taking it out and holding it does.
use Rattle.std.proofs.Common.{◌≡◌, ◌≢◌, ℕ, zero, suc, ◌+◌, ◌<◌, ◌≤◌, max, List, [], ◌∷◌, ◌++◌, length, replicate, set, Some, refl, sym, ap, subst, ◌∙◌, arith, inl, inr, slice_get}
use Rattle.std.specs.FinMap as fin
use Rattle.std.specs.declared.vec.Vec.{Vec}
use Rattle.std.specs.declared.alloc.Global.{Global}
use Rattle.std.proofs.lemmas.Bool.{cases_eq, cases_lt, eq-eqb}
use Rattle.std.proofs.lemmas.List.{length-set, length-replicate, map-set, get_or-set_same, get_or-set_other}
use Rattle.std.proofs.lemmas.List.Elements.{All-nil, All-cons}
use Rattle.std.proofs.lemmas.Option.{slice_get_within}
use Rattle.cb_times.specs.Order.{field}
use Rattle.cb_frames.specs.Fields.{CastFields, first_number, last_number}
use Rattle.cb_frames.proofs.Carried.{carried_up_to_the_last, carries_some, last_is_first, one_has_some}
use Rattle.cb_delay.specs.declared.message.Message.{Message}
use Rattle.cb_delay.specs.Rule.{IsReady}
use Rattle.cb_diffs.specs.Expansion.{IsNext as IsNextCast}
use Rattle.cb_gaps.specs.Buffer.{Buffer}
use Rattle.cb_gaps.proofs.Passing.{with_cast, is_not_kept, passing_is_next, passing_takes}
use Rattle.cb_history.specs.Facts.{Fact, CastReceived, casts_in}
use Rattle.cb_history.specs.View.{count, view}
use Rattle.cb_history.specs.Known.{expanded_count}
use Rattle.cb_history.specs.BufferLaws.{AreKept}
use Rattle.cb_history.specs.LegalFacts.{AreFactsOf}
use Rattle.cb_history.specs.Singles.{IsSingle, singles_of, singles_in}
use Rattle.cb_history.proofs.Buffers.{all_is_taken}
use Rattle.cb_history.proofs.Delivering.{in_field, past_fields}
use Rattle.cb_history.proofs.Prefixes.{last_fact_is_a_step, prefix_of_facts_is_legal}
use Rattle.cb_history.proofs.RisingByCasts.{delivered_is_known}
use Rattle.cb_history.proofs.Singles.{singles_are_the_same, singles_of_one_message}
use Rattle.cb_member.specs.declared.delivery.Delivery.{Delivery}
use Rattle.cb_member.specs.declared.knowledge.Knowledge.{Knowledge}
use Rattle.cb_member.specs.declared.reception.Reception.{Reception}
use Rattle.cb_member.specs.declared.state.State.{State}
use Rattle.cb_member.specs.Delivery.{IsWaiting}
use Rattle.cb_member.specs.Reception.{HasReceived, spares_in}
use Rattle.cb_member.specs.Singles.{AreSparesFor}
use Rattle.cb_member.specs.State.{Keeps}
use Rattle.cb_member.specs.Taking.{KeepsCast, HasNoNextOf, Tells, HasTurn, Hears, OnlyTakesIn, TakesIn, IsTakingIn, TakesAll, HasTakenIn, TakesInCast, CanFollow, one_more, taken_with}
use Rattle.cb_member.specs.Passing.{CanTakeInOrder, TakesInOrder, HoldsIt}
use Rattle.cb_member.proofs.Receiving.{GivesNext, written_back, at_written, IsReported, kept_cast, next_is_reported, its_turn}
use Rattle.cb_member.proofs.TakingIn.{of_other, of_member, TakesOne, expanded_then, takes_on, none_taken_yet, all_taken, begins, ends, only_alike, time_fits_known, message_has_turn, sender_is_heard_of}

-- ---- lists that are written over

pub written_twice : {A : Type 0} → (xs : List A) (i : ℕ) (a b : A) → set (set xs i a) i b ≡ set xs i b
written_twice [] i a b = refl
written_twice (x ∷ xs) zero a b = refl
written_twice (x ∷ xs) (suc i) a b = ap (λ rest. x ∷ rest) (written_twice xs i a b)

found_at : {A : Type 0} → (xs : List A) (i : ℕ) → i < length xs → (a : A) × (slice_get xs i ≡ Some a)
found_at [] i lt = absurd (omega (arith, lt))
found_at (x ∷ xs) zero lt = (x, refl)
found_at (x ∷ xs) (suc i) lt = found_at xs i (omega (arith, lt))

none_in : {A : Type 0} → (xs : List A) → length xs ≡ 0 → xs ≡ []
none_in [] none = refl
none_in (x ∷ xs) none = absurd (omega (arith, none))

-- the vector with this in its place, and one that has this alone
abbrev with_at : {A : Type 0} → Vec A Global → ℕ → A → Vec A Global
with_at v i a = record v { items = set v.items i a; ok = (v.ok.0 ∙ sym (length-set v.items i a), v.ok.1) }

abbrev just_one : Vec (Vec (List ℕ) Global) Global → List ℕ → Vec (List ℕ) Global
just_one v spare = record { ptr = v.ptr; len = 1; cap = 1; alloc = v.alloc; items = spare ∷ []; ok = (refl, omega arith); small = omega arith }

-- ---- a cast of one message

-- it is its own single
own_single : (c : CastFields) → IsSingle c → singles_of c ≡ c ∷ []
own_single c single = singles_of_one_message c single

-- and wants one spare
one_spare : (c : CastFields) (size : ℕ) (spare : List ℕ) → IsSingle c → length spare ≡ size → AreSparesFor c size (spare ∷ [])
one_spare c size spare single long = record {
  many = omega (arith, last_is_first c single, carried_up_to_the_last c (one_has_some c.load single));
  sizes = All-cons (λ time. length time ≡ size) spare [] long (All-nil (λ (time : List ℕ). length time ≡ size));
}

-- ---- kept and taken out

module _ (c : CastFields) (old : Reception) (can : CanTakeInOrder c old) where
  -- the sender's buffer with the cast, and without it
  abbrev full : Buffer
  full = with_cast can.in_order.buffer c

  abbrev after : Buffer
  after = record can.in_order.buffer { taken = last_number c }

  abbrev spare : List ℕ
  spare = replicate (length old.expander) 0

  within : c.sender < length old.buffers.items
  within = slice_get_within old.buffers.items c.sender can.in_order.buffer can.in_order.at

  other : c.sender ≢ can.seat.me
  other = of_other can.seat can.facts c can.legal

  member : c.sender < can.seat.group.size
  member = of_member can.seat can.facts c can.legal

  senders : length old.expander ≡ can.seat.group.size
  senders = (can.received.times c.sender member other).senders

  -- no spare is there, since no cast waits
  no_spare : slice_get (spares_in old) c.sender ≡ Some []
  no_spare =
      let stacks = can.received.stacks in
      let found = found_at (spares_in old) c.sender (omega (arith, stacks, member)) in
      let count = (can.received.spares c.sender can.in_order.buffer found.0 can.in_order.at found.1).count in
      let none : fin.len can.in_order.buffer.kept ≡ 0 = ap (λ kept. fin.len kept) can.in_order.in_order.none_kept ∙ fin.len-empty _ CastFields in
      found.1 ∙ ap (λ (x : List (List ℕ)). Some x) (none_in found.0 (omega (arith, count, none)))

  -- as the reception would be in between
  abbrev between : Reception
  between = record {
    buffers = with_at old.buffers c.sender full;
    expander = old.expander;
    spares = with_at old.spares c.sender (just_one old.spares spare);
  }

  spares_between : spares_in between ≡ set (spares_in old) c.sender (spare ∷ [])
  spares_between = map-set (λ (times : Vec (List ℕ) Global). times.items) old.spares.items c.sender (just_one old.spares spare)

  keeps_it : KeepsCast c (spare ∷ []) old between
  keeps_it seat facts are all spares_are =
      kept_cast c (spare ∷ []) can.in_order.buffer full [] old between (record {
        at = can.in_order.at;
        kept = subst (λ (singles : List CastFields). AreKept can.in_order.buffer singles full) (sym (own_single c can.single)) (full, refl, refl);
        buffers = refl;
        expander = refl;
        at_stack = no_spare;
        now_spares = spares_between;
      }) can.delivered can.can_keep seat facts are all spares_are

  fits_it : (size : ℕ) → length old.expander ≡ size → AreSparesFor c size (spare ∷ [])
  fits_it size long = one_spare c size spare can.single (length-replicate (length old.expander) 0 ∙ long)

  gives_it : GivesNext c c.sender full after between
  gives_it = record {
    at = at_written old.buffers.items c.sender full within;
    next = passing_is_next can.in_order.buffer c can.in_order.in_order;
    takes = passing_takes can.in_order.buffer c can.in_order.in_order;
  }

  received : HasReceived can.seat (can.facts ++ CastReceived c ∷ []) (expanded_count (casts_in can.facts)) between
  received = keeps_it can.seat can.facts can.legal can.received (fits_it can.seat.group.size senders)

  pub in_order_is_next : IsNextCast old.expander c
  in_order_is_next = its_turn c c.sender full after between gives_it can.seat (can.facts ++ CastReceived c ∷ []) (expanded_count (casts_in can.facts)) can.legal other received

  module _ (new : Reception) (message : Message) (buffers : new.buffers.items ≡ set old.buffers.items c.sender after) (spares : new.spares ≡ old.spares)
      (tells : Tells c old.expander new.expander message) where
    spares_left : spares_in new ≡ set (spares_in between) c.sender []
    spares_left =
        ap (λ (v : Vec (Vec (List ℕ) Global) Global). spares_in (record old { spares = v })) spares
        ∙ sym (ap (λ (xs : List (List (List ℕ))). set xs c.sender []) spares_between ∙ written_twice (spares_in old) c.sender (spare ∷ []) [] ∙ written_back (spares_in old) c.sender [] no_spare)

    reported : IsReported c c.sender after (spare ∷ []) [] spare between new message
    reported = record {
      at_stack = ap (λ (xs : List (List (List ℕ))). slice_get xs c.sender) spares_between ∙ at_written (spares_in old) c.sender (spare ∷ []) (slice_get_within (spares_in old) c.sender [] no_spare);
      popped = refl;
      spares = spares_left;
      tells = tells;
      buffers = buffers ∙ sym (written_twice old.buffers.items c.sender full after);
    }

    at_new : slice_get new.buffers.items c.sender ≡ Some after
    at_new = ap (λ (bs : List Buffer). slice_get bs c.sender) buffers ∙ at_written old.buffers.items c.sender after within

    none_behind : HasNoNextOf c.sender new new
    none_behind seat facts taken are not_me has = (
      sym (has.taken_are c.sender after at_new not_me) ∙ all_is_taken (singles_in facts) c.sender after (has.waits c.sender after at_new not_me) (is_not_kept can.in_order.buffer c can.in_order.in_order (after.taken + 1))
          ∙ (singles_are_the_same (casts_in facts)).counts c.sender,
      has,
    )

    pub takes_in_order : TakesInOrder c old new message
    takes_in_order = record {
      between = between;
      spare = spare;
      keeps = keeps_it;
      fits = fits_it (length old.expander) refl;
      expands = λ seat facts taken are not_me has. next_is_reported c c.sender full after between gives_it seat facts taken are not_me has (spare ∷ []) [] spare new message reported;
      none = none_behind;
    }

-- ---- the whole

-- a cast that is taken in order: its message is told, and its number heard
module _ (c : CastFields) (old : State) (reception : Reception) (known_then : Knowledge) (message : Message) (can : CanFollow c old)
    (takes : TakesInOrder c old.reception reception message) (hears : Hears c.sender (last_number c) old.knowledge known_then) where
  -- as the state would be with the cast kept and its number heard
  abbrev begun : State
  begun = record old { reception = takes.between; knowledge = known_then }

  only_begun : OnlyTakesIn old begun
  only_begun = record { seat = refl; time = refl; acks = hears.acks; sending = refl; relays = refl }

  takes_first : (facts : List Fact) → AreFactsOf old.seat (facts ++ CastReceived c ∷ []) → Keeps facts old → TakesIn facts c (expanded_count (casts_in facts) c.sender) begun
  takes_first facts are keeps =
      begins facts c (takes.spare ∷ []) old begun are keeps
      (subst (λ (size : ℕ). AreSparesFor c size (takes.spare ∷ [])) (keeps.received.times c.sender (of_member old.seat facts c are) (of_other old.seat facts c are)).senders takes.fits)
      (record { keeps = takes.keeps; hears = hears; queue = refl; only = only_begun })

  is_taking : IsTakingIn c.sender begun
  is_taking = record { facts = can.facts; cast = c; taken = expanded_count (casts_in can.facts) c.sender; of_sender = refl; takes = takes_first can.facts can.legal can.keeps }

  -- its message's time has as many fields as what is known, and the queue can hold the message
  pub passing_fits_known : length message.time ≡ length known_then.known
  passing_fits_known = time_fits_known c.sender begun reception message is_taking takes.expands

  pub passing_has_turn : HasTurn old.delivery.queue message
  passing_has_turn = message_has_turn c.sender begun reception message is_taking takes.expands

  -- one more of the sender's is expanded by it
  pub passing_expands_one : (facts : List Fact) → AreFactsOf old.seat (facts ++ CastReceived c ∷ []) → Keeps facts old
      → expanded_count (casts_in (facts ++ CastReceived c ∷ [])) c.sender ≡ expanded_count (casts_in facts) c.sender + 1
  passing_expands_one facts are keeps =
      let now = facts ++ CastReceived c ∷ [] in
      let taken = taken_with facts c (expanded_count (casts_in facts) c.sender) in
      let not_me = of_other old.seat facts c are in
      let reported = expanded_then facts c (expanded_count (casts_in facts) c.sender) c.sender begun reception message refl (takes_first facts are keeps) takes.expands in
      let last = takes.none old.seat now (one_more taken c.sender) are not_me reported.received in
      let more : one_more taken c.sender c.sender ≡ taken c.sender + 1 = rw (eq-eqb c.sender c.sender refl) refl in
      let here : taken c.sender ≡ expanded_count (casts_in facts) c.sender = rw (eq-eqb c.sender c.sender refl) refl in
      let is = last.0 in
      omega (arith, more, here, is)

  -- the message is held, and what its time says of the others is known
  module _ (held : Delivery) (heard : Knowledge) (holds : HoldsIt old.delivery message held) (fields : length heard.known ≡ length known_then.known)
      (raised : (i : ℕ) → i ≢ old.seat.me → field heard.known i ≡ max (field known_then.known i) (field message.time i)) (acks : heard.acks ≡ known_then.acks) where
    -- as the state would be with the cast taken in
    abbrev taken_in : State
    taken_in = record old { delivery = held; reception = reception; knowledge = heard }

    only_taken : OnlyTakesIn begun taken_in
    only_taken = record { seat = refl; time = holds.time; acks = acks; sending = refl; relays = refl }

    takes_it : TakesOne c.sender begun taken_in message
    takes_it = record { expands = takes.expands; fields = fields; raised = raised; is_queue = holds.is_queue; queue = holds.queue; only = only_taken }

    takes_all : TakesAll c.sender begun taken_in
    takes_all = all_taken c.sender begun taken_in taken_in (takes_on c.sender begun begun taken_in message (none_taken_yet c.sender begun) takes_it) takes.none refl

    pub passing_takes_in : (facts : List Fact) → AreFactsOf old.seat (facts ++ CastReceived c ∷ []) → Keeps facts old → HasTakenIn facts c old taken_in
    passing_takes_in facts are keeps = ends facts c old begun taken_in are keeps refl refl only_taken (takes_all facts c (expanded_count (casts_in facts) c.sender) refl (takes_first facts are keeps))

    pub passing_only : OnlyTakesIn old taken_in
    passing_only = only_alike old begun taken_in only_begun only_taken

    -- so it is as if the cast was taken in
    pub passing_takes_cast : TakesInCast c old taken_in
    passing_takes_cast = record { takes_in = passing_takes_in; only = passing_only }

    pub passing_waits : IsWaiting held
    passing_waits = record {
      size = old.seat.group.size;
      casts = casts_in (can.facts ++ CastReceived c ∷ []);
      seen = view old.seat.group.size can.facts;
      waits = (passing_takes_in can.facts can.legal can.keeps).waits;
    }

-- ---- what a message that may be delivered says of the others was heard of

module _ (c : CastFields) (old : State) (known_then : Knowledge) (time : List ℕ) (can : CanFollow c old) (hears : Hears c.sender (last_number c) old.knowledge known_then)
    (own : field time c.sender ≡ first_number c) (ready : IsReady c.sender (field time) (field old.delivery.time)) where
  upto_known : (i : ℕ) → i ≢ old.seat.me → i ≢ c.sender → field time i ≤ field old.knowledge.known i
  upto_known i not_me ne = elim (cases_lt i old.seat.group.size) [
    | inl lt ↦
        let upto = ready.others i ne in
        let counted : field old.delivery.time i ≡ count (view old.seat.group.size can.facts) i =
        ap (λ (ns : List ℕ). field ns i) can.keeps.delivered.waits.time ∙ in_field old.seat.group.size (count (view old.seat.group.size can.facts)) i lt in
        let heard = can.keeps.knows.heard i lt not_me in
        let least = delivered_is_known old.seat can.facts i (prefix_of_facts_is_legal old.seat can.facts (CastReceived c ∷ []) can.legal) in
        omega (arith, upto, counted, heard, least)
    | inr past ↦
        let upto = ready.others i ne in
        let counted : field old.delivery.time i ≡ 0 =
        ap (λ (ns : List ℕ). field ns i) can.keeps.delivered.waits.time ∙ past_fields old.seat.group.size (count (view old.seat.group.size can.facts)) i past in
        omega (arith, upto, counted)
  ]

  pub ready_is_heard : (i : ℕ) → i ≢ old.seat.me → field known_then.known i ≡ max (field known_then.known i) (field time i)
  ready_is_heard i not_me =
      let value = max (field old.knowledge.known c.sender) (last_number c) in
      elim (cases_eq i c.sender) [
        | inl e ↦
            let step = last_fact_is_a_step old.seat can.facts (CastReceived c) can.legal in
            let here : field known_then.known i ≡ value =
            ap (field known_then.known) e ∙ ap (λ (ns : List ℕ). field ns c.sender) hears.known ∙ get_or-set_same old.knowledge.known c.sender value 0 (sender_is_heard_of c old can) in
            let says : field time i ≡ first_number c = ap (field time) e ∙ own in
            omega (arith, here, says, carries_some c step.load.some)
        | inr ne ↦
            let there : field known_then.known i ≡ field old.knowledge.known i = ap (λ (ns : List ℕ). field ns i) hears.known ∙ get_or-set_other old.knowledge.known c.sender i value 0 ne in
            let upto = upto_known i not_me ne in
            omega (arith, there, upto)
      ]
