-- What each course does: as if the cast had been taken in, and what was ready had been delivered then.
use Rattle.std.proofs.Common.{◌≡◌, ℕ, ◌+◌, ◌≤◌, max, inl, inr, List, [], ◌∷◌, ◌++◌, None, refl, sym, ap, subst, ◌∙◌, arith}
use Rattle.std.specs.FinMap as fin
use Rattle.std.specs.Vec.{vec_len}
use Rattle.std.specs.declared.alloc.Global.{Global}
use Rattle.std.specs.declared.vec.Vec.{Vec}
use Rattle.cb_times.specs.Order.{field}
use Rattle.cb_times.specs.Time.{IsRaised}
use Rattle.cb_frames.specs.Fields.{Carried, CastFields, last_number}
use Rattle.cb_delay.specs.declared.message.Event.{Event}
use Rattle.cb_delay.specs.declared.message.Message.{Message}
use Rattle.cb_delay.specs.Message.{name_cmp}
use Rattle.cb_delay.specs.Queue.{Queue, Holds, HasReady, IsDelayQueue}
use Rattle.cb_delay.specs.Rule.{IsReady}
use Rattle.cb_history.specs.Facts.{CastReceived, casts_in}
use Rattle.cb_history.specs.Known.{expanded_count}
use Rattle.cb_history.specs.QueueLaws.{HoldsUndelivered}
use Rattle.cb_history.specs.View.{next_delivery, view}
use Rattle.cb_history.specs.WaitingLaws.{HoldsTakenOf}
use Rattle.cb_history.proofs.Queueing.{none_ready_is_nothing_next}
use Rattle.cb_history.proofs.Taking.{all_taken_is_waiting, cast_waits_for_its_turn}
use Rattle.cb_member.specs.declared.delivery.Delivery.{Delivery}
use Rattle.cb_member.specs.declared.knowledge.Knowledge.{Knowledge}
use Rattle.cb_member.specs.declared.reception.Reception.{Reception}
use Rattle.cb_member.specs.declared.state.State.{State}
use Rattle.cb_member.specs.Course.{DeliversWhatIsReady, GoesAlone, HasTime, HoldsAtMost, IsEarly, MustWait, TakesAndDelivers, TakesAndWaits}
use Rattle.cb_member.specs.Delivery.{Drains, NoneReady}
use Rattle.cb_member.specs.Passing.{DeliversAlone, HoldsIt, IsAlone, TakesInOrder, message_at}
use Rattle.cb_member.specs.Taking.{CanFollow, HasTakenIn, HasTurn, Hears, TakesInCast}
use Rattle.cb_member.proofs.Arriving.{is_delivered, no_fewer}
use Rattle.cb_member.proofs.Courses.{time_is_long}
use Rattle.cb_member.proofs.Draining.{is_drained, none_so_far}
use Rattle.cb_member.proofs.Passing.{passing_has_turn, passing_takes_cast, ready_is_heard}
use Rattle.cb_member.proofs.Putting.{held_then}
use Rattle.cb_member.proofs.TakingIn.{sender_is_counted}
use Rattle.cb_member.proofs.Waiting.{none_next}

-- where nothing may be delivered a drain delivers nothing
nothing_drains : (d : Delivery) → NoneReady d → (events : List Event) → Drains d d events events
nothing_drains d none events = is_drained d d d events events (none_so_far d events) (none_next d d.queue (record { size = refl; window = refl; now_held = refl }) none)

waits_so : (c : CastFields) (old new : State) → TakesInCast c old new → NoneReady new.delivery → TakesAndWaits c old new
waits_so c old new takes none events = record { waits = new.delivery; takes_in = takes; drains = nothing_drains new.delivery none events }

-- ---- before its turn

module _ (c : CastFields) (spares : List (List ℕ)) (old new : State) (early : IsEarly c spares old) (takes : TakesInCast c old new) where
  can : CanFollow c old
  can = early.can.can

  abbrev size : ℕ
  size = old.seat.group.size

  abbrev casts : List CastFields
  casts = casts_in (early.can.can.facts ++ CastReceived c ∷ [])

  abbrev seen : List Carried
  seen = view old.seat.group.size early.can.can.facts

  taken : HasTakenIn early.can.can.facts c old new
  taken = takes.takes_in early.can.can.facts early.can.can.legal early.can.can.keeps

  none_more : expanded_count (casts_in early.can.can.facts) c.sender ≡ expanded_count casts c.sender
  none_more =
      let more = early.expands_none old.seat early.can.can.facts c early.can.can.legal refl refl refl early.can.can.keeps.received in
      omega (arith, more)

  held_still : HoldsUndelivered size casts seen old.delivery.queue
  held_still = all_taken_is_waiting size casts seen c.sender old.delivery.queue
      (subst (λ (n : ℕ). HoldsTakenOf size casts seen c.sender n old.delivery.queue) none_more
      (cast_waits_for_its_turn old.seat early.can.can.facts c old.delivery.queue early.can.can.legal early.can.can.keeps.delivered.waits.queue))

  nothing_next : next_delivery size casts seen ≡ None
  nothing_next = (none_ready_is_nothing_next size casts seen old.delivery.queue taken.waits.way held_still).0
      (λ i. subst (λ (time : List ℕ). ¬ HasReady old.delivery.queue time i) early.can.can.keeps.delivered.waits.time (early.none_ready i))

  none_ready : NoneReady new.delivery
  none_ready i = subst (λ (time : List ℕ). ¬ HasReady new.delivery.queue time i) (sym taken.waits.time)
      ((none_ready_is_nothing_next size casts seen new.delivery.queue taken.waits.way taken.waits.queue).1 nothing_next i)

  pub goes_early : TakesAndWaits c old new
  goes_early = waits_so c old new takes none_ready

-- ---- in order

module _ (c : CastFields) (time : List ℕ) (old : State) (has : HasTime c time old) (reception : Reception) (known_then : Knowledge) (message : Message)
    (takes : TakesInOrder c old.reception reception message) (is : message ≡ message_at c time) (hears : Hears c.sender (last_number c) old.knowledge known_then) where
  pub has_its_turn : HasTurn old.delivery.queue message
  has_its_turn = passing_has_turn c old reception known_then message has.can takes hears

  module _ (queue : Queue) (is_queue : IsDelayQueue old.delivery.queue) (holds : Holds old.delivery.queue queue (fin.insert old.delivery.queue.held message.name message))
      (known : List ℕ) (raised : IsRaised known_then.known message.time known) where
    abbrev waiting : Delivery
    waiting = record old.delivery { queue = queue }

    abbrev after : State
    after = record old { delivery = record old.delivery { queue = queue }; reception = reception; knowledge = record known_then { known = known } }

    holds_it : HoldsIt old.delivery message waiting
    holds_it = record { time = refl; is_queue = is_queue; queue = holds }

    pub is_taken_in : TakesInCast c old after
    is_taken_in = passing_takes_cast c old reception known_then message has.can takes hears waiting (record known_then { known = known }) holds_it raised.size (λ i other. raised.each i) refl

    pub is_held : HoldsIt old.delivery (message_at c time) waiting
    is_held = subst (λ (x : Message). HoldsIt old.delivery x waiting) is holds_it

-- ---- in order, and it has to wait

module _ (c : CastFields) (time : List ℕ) (old new : State) (must : MustWait c time old) (takes : TakesInCast c old new) (holds : HoldsIt old.delivery (message_at c time) new.delivery) where
  none_may : NoneReady new.delivery
  none_may i ready =
      let rule : IsReady i (field ready.0.time) (field old.delivery.time) = subst (λ (t : List ℕ). IsReady i (field ready.0.time) (field t)) holds.time ready.3 in
      elim (held_then old.delivery.queue (message_at c time) ready.0 (sym (ap (λ (held : fin.FinMap name_cmp Message). fin.get held ready.0.name) holds.queue.now_held) ∙ ready.1)) [
        | inl same ↦
            let sender : i ≡ c.sender = sym ready.2 ∙ ap (λ (x : Message). x.name.sender) (sym same) in
            must.not_ready (subst (λ (s : ℕ). IsReady s (field time) (field old.delivery.time)) sender (subst (λ (x : Message). IsReady i (field x.time) (field old.delivery.time)) (sym same) rule))
        | inr before ↦ must.none_ready i (ready.0, before, ready.2, rule)
      ]

  pub goes_waiting : TakesAndWaits c old new
  goes_waiting = waits_so c old new takes none_may

-- ---- in order, and delivered alone

module _ (c : CastFields) (time : List ℕ) (old : State) (goes : GoesAlone c time old) (reception : Reception) (known_then : Knowledge) (message : Message)
    (takes : TakesInOrder c old.reception reception message) (is : message ≡ message_at c time) (hears : Hears c.sender (last_number c) old.knowledge known_then) where
  pub is_alone : IsAlone message old.delivery
  is_alone = subst (λ (x : Message). IsAlone x old.delivery) (sym is) (record {
    turn = subst (HasTurn old.delivery.queue) is (passing_has_turn c old reception known_then message goes.has_time.can takes hears);
    fits = goes.has_time.size ∙ sym (time_is_long c old goes.has_time.can);
    sender = sender_is_counted c old goes.has_time.can;
    ready = goes.ready;
    leaves = goes.leaves;
  })

  pub goes_alone : (d : Delivery) (before now : List Event) → DeliversAlone message old.delivery d before now
      → TakesAndDelivers c old (record old { delivery = d; reception = reception; knowledge = known_then }) before now
  goes_alone d before now delivers = record {
    waits = delivers.held;
    takes_in = passing_takes_cast c old reception known_then message goes.has_time.can takes hears delivers.held known_then delivers.holds refl
        (λ i other. ready_is_heard c old known_then time goes.has_time.can hears goes.has_time.grown.own goes.ready i other
        ∙ ap (λ (x : Message). max (field known_then.known i) (field x.time i)) (sym is)) refl;
    drains = delivers.drains;
  }

-- ---- others may go with it

-- the cast was taken in
module _ (c : CastFields) (old mid : State) (can : CanFollow c old) (takes : TakesInCast c old mid) where
  -- no more wait then than there may
  pub waits_at_most : (count : ℕ) → HoldsAtMost c old count → fin.len mid.delivery.queue.held ≤ count
  waits_at_most count holds =
      let held = (takes.takes_in can.facts can.legal can.keeps).held in
      let upto = holds can.facts can.legal can.keeps in
      omega (arith, held, upto)

  -- and then what was ready was delivered
  pub goes_on : (d : Delivery) (before after : Vec Event Global) → Drains mid.delivery d before.items after.items → vec_len after ≤ vec_len before + fin.len mid.delivery.queue.held
      → DeliversWhatIsReady c old (record mid { delivery = d }) before after
  goes_on d before after drains few =
      let delivers : TakesAndDelivers c old (record mid { delivery = d }) before.items after.items = record { waits = mid.delivery; takes_in = takes; drains = drains } in
      let grows = no_fewer can.facts c old (record mid { delivery = d }) before.items after.items
      (is_delivered can.facts c old (record mid { delivery = d }) before.items after.items delivers can.legal can.keeps) in
      record {
        takes = delivers;
        grows = omega (arith, grows, before.ok.0, after.ok.0);
        few = λ count holds. omega (arith, few, waits_at_most count holds);
      }
