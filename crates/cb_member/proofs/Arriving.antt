-- What is kept is so of the facts with a cast of another member, once it is taken in and delivered.
use Rattle.std.proofs.Common.{◌≡◌, ◌≢◌, ◌⊎◌, ℕ, ◌+◌, ◌-◌, ◌<◌, ◌≤◌, max, cond, eqb, inl, inr, List, [], ◌∷◌, ◌++◌, length, length-append, map, drop, take, None, refl, sym, ap, subst, ◌∙◌, arith}
use Rattle.std.specs.List.{All}
use Rattle.std.specs.declared.vec.Vec.{Vec}
use Rattle.std.specs.declared.alloc.Global.{Global}
use Rattle.std.proofs.lemmas.Bool.{cases_eq, eq-eqb, ne_eqb}
use Rattle.std.proofs.lemmas.List.{drop_at, take_rest}
use Rattle.std.proofs.lemmas.List.Elements.{All-cons, All-nil}
use Rattle.std.proofs.lemmas.List.FromFn.{length-map-range_with_len}
use Rattle.cb_times.specs.Order.{field}
use Rattle.cb_frames.specs.Fields.{CastFields, CastFrame, Carried}
use Rattle.cb_delay.specs.declared.message.Message.{Message}
use Rattle.cb_delay.specs.declared.message.Event.{Event}
use Rattle.cb_delay.specs.declared.message.Event.TheVariants.{Deliver}
use Rattle.cb_diffs.specs.Expansion.{expanded_field}
use Rattle.cb_stability.specs.Known as acks
use Rattle.cb_stability.specs.Relays.{Relayed}
use Rattle.cb_history.specs.Group.{Identity}
use Rattle.cb_history.specs.Facts.{Fact, CastReceived, casts_in}
use Rattle.cb_history.specs.View.{count, view, time_of, drain, message_in}
use Rattle.cb_history.specs.Known.{greatest_of, acknowledged_of, counted_by}
use Rattle.cb_history.specs.Answers.{deliveries, delivered}
use Rattle.cb_history.specs.LegalFacts.{AreFactsOf}
use Rattle.cb_history.specs.NameLaws.{IsOneOf}
use Rattle.cb_history.specs.StabilityLaws.{KnowsAcknowledged}
use Rattle.cb_history.proofs.Views.{casts_in-append}
use Rattle.cb_history.proofs.Walks.{view_received}
use Rattle.cb_history.proofs.Delivering.{in_field}
use Rattle.cb_history.proofs.Happening.{delivered_of_others, none_counted}
use Rattle.cb_history.proofs.Lists.{count-append}
use Rattle.cb_history.proofs.Names.{one_of_is_in}
use Rattle.cb_history.proofs.Times.{upto_other}
use Rattle.cb_history.proofs.RisingByCasts.{cast_is_acknowledged_of}
use Rattle.cb_history.proofs.Statuses.{last_status_with_one_more}
use Rattle.cb_member.specs.declared.arrival.course.Course.{Course}
use Rattle.cb_member.specs.declared.arrival.course.Course.TheVariants.{Early, Waits as Waiting, Alone, AllAlone, LeadsOn, LetsGo}
use Rattle.cb_member.specs.declared.delivery.Delivery.{Delivery}
use Rattle.cb_member.specs.declared.sending.Sending.{Sending}
use Rattle.cb_member.specs.declared.state.State.{State}
use Rattle.cb_member.specs.Arriving.{DeliversOn}
use Rattle.cb_member.specs.Course.{CanGo, TakesAndDelivers}
use Rattle.cb_member.specs.Delivery.{IsDrained, Waits, delivered_in}
use Rattle.cb_member.specs.Knowledge.{HasTimeOf, KnowsFacts, LearnsAll, delivered_by, reached_in, reported_in}
use Rattle.cb_member.specs.Reception.{HasReceivedAll}
use Rattle.cb_member.specs.Relaying.{KeepsAllRelays, RelaysCast}
use Rattle.cb_member.specs.Sending.{HasSent, TrimsToStable}
use Rattle.cb_member.specs.State.{HasDelivered, Keeps}
use Rattle.cb_member.specs.Taking.{CanFollow, HasTakenIn, OnlyTakesIn}
use Rattle.cb_member.proofs.OwnCasts.{still_reported}
use Rattle.cb_member.proofs.TakingIn.{of_member}

-- whatever its course, the cast may follow some facts that are kept
pub can_follow : (c : CastFields) (course : Course) (state : State) → CanGo c course state → CanFollow c state
can_follow c (Early spare) state can = can.can.can
can_follow c (Waiting time) state can = can.has_time.can
can_follow c (Alone time) state can = can.has_time.can
can_follow c (AllAlone time deliveries) state can = can.can
can_follow c (LeadsOn time count) state can = can.0.can
can_follow c (LetsGo spare count) state can = can.0.can

-- the cast was taken in, and what was ready is delivered
pub record IsDelivered (facts : List Fact) (c : CastFields) (old mid : State) (before after : List Event) : Type 0 where
  pub waits : Delivery
  pub legal : AreFactsOf old.seat (facts ++ CastReceived c ∷ [])
  pub keeps : Keeps facts old
  pub taken : HasTakenIn facts c old (record mid { delivery = waits })
  pub only : OnlyTakesIn old (record mid { delivery = waits })
  pub drained : IsDrained old.seat.group.size (casts_in (facts ++ CastReceived c ∷ [])) (view old.seat.group.size facts) waits mid.delivery before after

pub is_delivered : (facts : List Fact) (c : CastFields) (old mid : State) (before after : List Event) → TakesAndDelivers c old mid before after → AreFactsOf old.seat (facts ++ CastReceived c ∷ []) → Keeps facts old
    → IsDelivered facts c old mid before after
is_delivered facts c old mid before after takes are keeps =
    let taken = takes.takes_in.takes_in facts are keeps in
    record {
      waits = takes.waits;
      legal = are;
      keeps = keeps;
      taken = taken;
      only = takes.takes_in.only;
      drained = takes.drains old.seat.group.size (casts_in (facts ++ CastReceived c ∷ [])) (view old.seat.group.size facts) taken.waits;
    }

delivered_as : (size : ℕ) (casts : List CastFields) (ms : List Carried) → delivered_in size casts ms ≡ map (λ m. Deliver m) (map (message_in size casts) ms)
delivered_as size casts [] = refl
delivered_as size casts (m ∷ ms) = ap (λ (es : List Event). Deliver (message_in size casts m) ∷ es) (delivered_as size casts ms)

delivered_back : (size : ℕ) (casts : List CastFields) (ms : List Carried) → delivered_by (delivered_in size casts ms) ≡ map (message_in size casts) ms
delivered_back size casts [] = refl
delivered_back size casts (m ∷ ms) = ap (λ (messages : List Message). message_in size casts m ∷ messages) (delivered_back size casts ms)

-- what is behind the first events
pub since_then : (before after now : List Event) (n : ℕ) → now ≡ after → n ≡ length before → take (length now - n) (drop n now) ≡ drop (length before) after
since_then before after now n same so_many = take_rest now n ∙ ap (λ (k : ℕ). drop k now) so_many ∙ ap (drop (length before)) same

module _ (facts : List Fact) (c : CastFields) (old mid : State) (before after : List Event) (is : IsDelivered facts c old mid before after) where
  abbrev seat : Identity
  seat = old.seat

  abbrev size : ℕ
  size = old.seat.group.size

  abbrev now : List Fact
  now = facts ++ CastReceived c ∷ []

  abbrev casts : List CastFields
  casts = casts_in now

  -- the messages that are delivered
  abbrev messages : List Message
  messages = map (message_in size casts) is.drained.more

  casts_are : casts ≡ casts_in facts ++ c ∷ []
  casts_are = casts_in-append facts (CastReceived c)

  view_grows : view size now ≡ view size facts ++ is.drained.more
  view_grows = view_received size facts c ∙ ap (λ (cs : List CastFields). drain size cs (view size facts)) (sym casts_are) ∙ is.drained.drained

  pub are_deliveries : messages ≡ deliveries seat facts (CastFrame c)
  are_deliveries = ap (map (message_in size casts)) (sym (ap (drop (length (view size facts))) view_grows ∙ drop_at (view size facts) is.drained.more (length (view size facts)) refl))

  pub events_join : after ≡ before ++ map (λ m. Deliver m) (deliveries seat facts (CastFrame c))
  events_join = is.drained.events ∙ ap (λ (es : List Event). before ++ es) (delivered_as size casts is.drained.more ∙ ap (map (λ m. Deliver m)) are_deliveries)

  pub no_fewer : length before ≤ length after
  no_fewer =
      let long : length after ≡ length before + length (delivered_in size casts is.drained.more) = ap (λ (es : List Event). length es) is.drained.events ∙ length-append before (delivered_in size casts is.drained.more) in
      omega (arith, long)

  pub delivered_since : delivered_by (drop (length before) after) ≡ messages
  delivered_since =
      ap delivered_by (ap (drop (length before)) is.drained.events ∙ drop_at before (delivered_in size casts is.drained.more) (length before) refl)
      ∙ delivered_back size casts is.drained.more

  delivered_with_it : HasDelivered seat now mid.delivery
  delivered_with_it = record {
    waits = subst (λ (seen : List Carried). Waits size casts seen mid.delivery) (sym view_grows) is.drained.waits;
    window = is.drained.window ∙ is.taken.window;
  }

  -- ---- what it acknowledges

  reported_by_it : (i : ℕ) → i < size → (ms : List Carried) (k : ℕ) → reported_in i (map (message_in size casts) ms) k ≡ counted_by casts ms k i
  reported_by_it i within [] k = refl
  reported_by_it i within (m ∷ ms) k = elim (cases_eq m.sender k) [
    | inl e ↦ rw (eq-eqb m.sender k e, reported_by_it i within ms k, in_field size (expanded_field casts m.sender m.number) i within) refl
    | inr ne ↦ rw (ne_eqb m.sender k ne) (reported_by_it i within ms k)
  ]

  -- where none is of i, nothing is reached of it, else as many as the time counts
  reached_by_it : (time : List ℕ) (ms : List Carried) (i : ℕ)
      → ((count ms i ≡ 0) × (greatest_of (reached_in time (map (message_in size casts) ms) i) ≡ 0)) ⊎ (greatest_of (reached_in time (map (message_in size casts) ms) i) ≡ field time i)
  reached_by_it time [] i = inl (refl, refl)
  reached_by_it time (m ∷ ms) i = elim (cases_eq m.sender i) [
    | inl e ↦ inr (rw (eq-eqb m.sender i e) (elim (reached_by_it time ms i) [
      | inl none ↦ omega (arith, none.1)
      | inr some ↦ omega (arith, some)
    ]))
    | inr ne ↦
        let other : cond {A = ℕ} (eqb m.sender i) 1 0 ≡ 0 = rw (ne_eqb m.sender i ne) refl in
        let counted : count (m ∷ ms) i ≡ count ms i = omega (arith, other) in
        let reached : greatest_of (reached_in time (map (message_in size casts) (m ∷ ms)) i) ≡ greatest_of (reached_in time (map (message_in size casts) ms) i) = rw (ne_eqb m.sender i ne) refl in
        elim (reached_by_it time ms i) [
          | inl none ↦ inl (counted ∙ none.0, reached ∙ none.1)
          | inr some ↦ inr (reached ∙ some)
        ]
  ]

  acks_before : mid.knowledge.acks ≡ old.knowledge.acks
  acks_before = is.only.acks

  pub acks_size : mid.knowledge.acks.size ≡ size
  acks_size = ap (λ (known : acks.Known). known.size) acks_before ∙ is.keeps.knows.acknowledged.of_size

  time_then : (i : ℕ) → i < size → field mid.delivery.time i ≡ delivered seat facts i + count is.drained.more i
  time_then i within =
      ap (λ (time : List ℕ). field time i) is.drained.waits.time ∙ in_field size (count (view size facts ++ is.drained.more)) i within
      ∙ count-append (view size facts) is.drained.more i

  own_is_delivered : (known : acks.Known) → LearnsAll seat.me mid.delivery.time messages mid.knowledge.acks known → (i : ℕ) → i < size → acks.count known seat.me i ≡ delivered seat now i
  own_is_delivered known learns i within =
      let learnt : acks.count known seat.me i ≡ max (delivered seat facts i) (greatest_of (reached_in mid.delivery.time messages i)) =
      learns.own i ∙ ap (λ (n : ℕ). max n (greatest_of (reached_in mid.delivery.time messages i))) (ap (λ (k : acks.Known). acks.count k seat.me i) acks_before ∙ is.keeps.knows.acknowledged.own i within) in
      let grown : delivered seat now i ≡ delivered seat facts i + count is.drained.more i = ap (λ (ms : List Carried). count ms i) view_grows ∙ count-append (view size facts) is.drained.more i in
      elim (reached_by_it mid.delivery.time is.drained.more i) [
        | inl none ↦ omega (arith, learnt, grown, none.0, none.1)
        | inr some ↦ omega (arith, learnt, grown, some, time_then i within)
      ]

  knows_acknowledged : (k : acks.Known) → LearnsAll seat.me mid.delivery.time messages mid.knowledge.acks k → KnowsAcknowledged seat now k
  knows_acknowledged k learns = record {
    member = is.legal.member;
    of_size = learns.of_size ∙ acks_size;
    learnt = λ j i member within other.
        learns.others j i (omega (arith, within, acks_size)) other
        ∙ ap (λ (known : acks.Known). max (acks.count known j i) (greatest_of (reported_in i messages j))) acks_before
        ∙ ap (λ (n : ℕ). max n (greatest_of (reported_in i messages j))) (is.keeps.knows.acknowledged.learnt j i member within other)
        ∙ ap (λ (ns : List ℕ). max (acknowledged_of seat facts j i) (greatest_of ns)) (reported_by_it i within is.drained.more j)
        ∙ ap (λ (cs : List CastFields). max (acknowledged_of seat facts j i) (greatest_of (counted_by cs is.drained.more j i))) casts_are
        ∙ sym (cast_is_acknowledged_of seat facts c j i is.drained.more is.legal view_grows);
    own = own_is_delivered k learns;
  }

  -- ---- what may have to be sent again

  sent_with_it : (k : acks.Known) (s : Sending) → LearnsAll seat.me mid.delivery.time messages mid.knowledge.acks k → TrimsToStable seat.me k mid.sending.window s.window → s ≡ record mid.sending { window = s.window } → HasSent seat now s
  sent_with_it k s learns trims rest =
      let before : HasSent seat facts mid.sending = subst (HasSent seat facts) (sym is.only.sending) is.keeps.sent in
      let after : HasSent seat now (record mid.sending { window = s.window }) = record {
        window = trims seat facts (CastReceived c) refl is.legal refl (knows_acknowledged k learns) before.window;
        last_cast = before.last_cast ∙ ap (time_of size) (sym (upto_other facts (CastReceived c) tt));
        fields = before.fields;
        reported = still_reported seat facts now mid.sending.has_reported mid.sending.last_reported (last_status_with_one_more facts (CastReceived c) None) before.reported;
      } in
      subst (HasSent seat now) (sym rest) after

  -- ---- the times of what is delivered

  timed : (ms : List Carried) → ((m : Carried) → IsOneOf m ms → (m.sender < size) × (m.sender ≢ seat.me)) → All (HasTimeOf seat.me size) (map (message_in size casts) ms)
  timed [] members = All-nil (HasTimeOf seat.me size)
  timed (m ∷ ms) members = All-cons (HasTimeOf seat.me size) (message_in size casts m) (map (message_in size casts) ms)
      (record { sender = (members m (inl refl)).0; other = (members m (inl refl)).1; time = length-map-range_with_len (expanded_field casts m.sender m.number) 0 size })
      (timed ms (λ n there. members n (inr there)))

  later : (front ms : List Carried) (m : Carried) → IsOneOf m ms → IsOneOf m (front ++ ms)
  later [] ms m there = there
  later (n ∷ front) ms m there = inr (later front ms m there)

  mid_seat : mid.seat ≡ seat
  mid_seat = is.only.seat

  pub have_times : All (HasTimeOf mid.seat.me mid.knowledge.acks.size) (delivered_by (drop (length before) after))
  have_times =
      let way = is.drained.waits.way in
      let none = delivered_of_others seat facts c is.drained.more is.legal view_grows in
      let each : All (HasTimeOf seat.me size) messages =
      timed is.drained.more (λ m there. (way.members m (way.of_casts m (later (view size facts) is.drained.more m there)), none_counted is.drained.more seat.me m none (one_of_is_in m is.drained.more there))) in
      let here : All (HasTimeOf mid.seat.me size) messages = subst (λ (me : ℕ). All (HasTimeOf me size) messages) (sym (ap (λ (s : Identity). s.me) mid_seat)) each in
      subst (All (HasTimeOf mid.seat.me mid.knowledge.acks.size)) (sym delivered_since) (subst (λ (n : ℕ). All (HasTimeOf mid.seat.me n) messages) (sym acks_size) here)

  -- the time that is delivered has as many fields as what is acknowledged
  pub time_fits_acks : length mid.delivery.time ≡ mid.knowledge.acks.size
  time_fits_acks = ap (λ (time : List ℕ). length time) is.drained.waits.time ∙ length-map-range_with_len (count (view size facts ++ is.drained.more)) 0 size ∙ sym acks_size

  -- its sender has relays
  pub relays_fit : c.sender < length mid.relays.items
  relays_fit =
      subst (λ (v : Vec Relayed Global). c.sender < length v.items) (sym is.only.relays)
      (subst (λ (n : ℕ). c.sender < n) (sym is.keeps.relayed.members) (of_member seat facts c is.legal))

  -- ---- all of it

  module _ (new : State) (same_seat : new.seat ≡ mid.seat) (same_delivery : new.delivery ≡ mid.delivery) (same_reception : new.reception ≡ mid.reception) (same_known : new.knowledge.known ≡ mid.knowledge.known)
      (learns : LearnsAll mid.seat.me mid.delivery.time (delivered_by (drop (length before) after)) mid.knowledge.acks new.knowledge.acks)
      (trims : TrimsToStable mid.seat.me new.knowledge.acks mid.sending.window new.sending.window)
      (rest : new.sending ≡ record mid.sending { window = new.sending.window }) (now_relays : List Relayed) (same_relays : new.relays.items ≡ now_relays) (relays : RelaysCast c mid.relays.items now_relays) where
    seat_is : new.seat ≡ seat
    seat_is = same_seat ∙ is.only.seat

    learnt : LearnsAll seat.me mid.delivery.time messages mid.knowledge.acks new.knowledge.acks
    learnt = subst (λ (me : ℕ). LearnsAll me mid.delivery.time messages mid.knowledge.acks new.knowledge.acks) (ap (λ (s : Identity). s.me) mid_seat)
        (subst (λ (ms : List Message). LearnsAll mid.seat.me mid.delivery.time ms mid.knowledge.acks new.knowledge.acks) delivered_since learns)

    trimmed : TrimsToStable seat.me new.knowledge.acks mid.sending.window new.sending.window
    trimmed = subst (λ (me : ℕ). TrimsToStable me new.knowledge.acks mid.sending.window new.sending.window) (ap (λ (s : Identity). s.me) mid_seat) trims

    knows_now : KnowsFacts seat now new.knowledge
    knows_now = record {
      fields = ap (λ (time : List ℕ). length time) same_known ∙ is.taken.fields;
      heard = λ i lt other. ap (λ (time : List ℕ). field time i) same_known ∙ is.taken.heard i lt other;
      acknowledged = knows_acknowledged new.knowledge.acks learnt;
    }

    relayed_now : KeepsAllRelays seat now new.relays.items
    relayed_now = subst (KeepsAllRelays seat now) (sym same_relays) (relays seat facts is.legal (subst (λ (v : Vec Relayed Global). KeepsAllRelays seat facts v.items) (sym is.only.relays) is.keeps.relayed))

    pub all_delivered : DeliversOn facts c old new before after
    all_delivered = record {
      keeps = record {
        delivered = subst (λ (s : Identity). HasDelivered s now new.delivery) (sym seat_is) (subst (HasDelivered seat now) (sym same_delivery) delivered_with_it);
        received = subst (λ (s : Identity). HasReceivedAll s now new.reception) (sym seat_is) (subst (HasReceivedAll seat now) (sym same_reception) is.taken.received);
        knows = subst (λ (s : Identity). KnowsFacts s now new.knowledge) (sym seat_is) knows_now;
        sent = subst (λ (s : Identity). HasSent s now new.sending) (sym seat_is) (sent_with_it new.knowledge.acks new.sending learnt trimmed rest);
        relayed = subst (λ (s : Identity). KeepsAllRelays s now new.relays.items) (sym seat_is) relayed_now;
      };
      events = events_join;
    }
