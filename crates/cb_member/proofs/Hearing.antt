-- A received status: what the rules say of it, and what is kept of it.
use Rattle.std.proofs.Common.{◌≡◌, ◌≢◌, ℕ, zero, suc, ◌+◌, ◌<◌, max, Bool, true, false, not, cond, eqb, ltb, ◌&&◌, ◌||◌, List, [], ◌∷◌, ◌++◌, length, map, drop, None, refl, sym, ap, subst, ◌∙◌, arith, inl, inr}
use Rattle.std.specs.List.{list_all, list_any, range_with_len}
use Rattle.std.specs.declared.vec.Vec.{Vec}
use Rattle.std.specs.declared.alloc.Global.{Global}
use Rattle.std.proofs.lemmas.Bool.{cases_eq, eq-eqb, ne_eqb, ltb-true}
use Rattle.std.proofs.lemmas.List.{append-nil, drop_all}
use Rattle.cb_times.specs.Order.{field}
use Rattle.cb_frames.specs.declared.frame.Change.{Change}
use Rattle.cb_frames.specs.Fields.{Carried, StatusFields, StatusFrame}
use Rattle.cb_stability.specs.Known.{Known, count}
use Rattle.cb_stability.specs.Relays.{Relayed}
use Rattle.cb_history.specs.Group.{Identity}
use Rattle.cb_history.specs.Facts.{Fact, StatusReceived, casts_in}
use Rattle.cb_history.specs.View as view
use Rattle.cb_history.specs.View.{message_in, time_of, view}
use Rattle.cb_history.specs.Known.{acknowledged_of, known, value_in}
use Rattle.cb_history.specs.Answers.{deliveries, delivered, is_news}
use Rattle.cb_history.specs.LegalFacts.{AreFactsOf}
use Rattle.cb_history.specs.RelayLaws.{RelaysStay}
use Rattle.cb_history.specs.StabilityLaws.{KnowsAcknowledged}
use Rattle.cb_history.proofs.Prefixes.{last_fact_is_a_step}
use Rattle.cb_history.proofs.Rising.{status_is_acknowledged_of, status_is_known}
use Rattle.cb_history.proofs.Statuses.{last_status_with_one_more}
use Rattle.cb_history.proofs.Times.{upto_other}
use Rattle.cb_history.proofs.Views.{casts_in-append}
use Rattle.cb_history.proofs.Walks.{view_status}
use Rattle.cb_member.specs.declared.delivery.Delivery.{Delivery}
use Rattle.cb_member.specs.declared.knowledge.Knowledge.{Knowledge}
use Rattle.cb_member.specs.declared.sending.Sending.{Sending}
use Rattle.cb_member.specs.declared.state.State.{State}
use Rattle.cb_member.specs.Knowledge.{HearsStatus, KnowsFacts}
use Rattle.cb_member.specs.Relaying.{KeepsAllRelays, TrimsRelays}
use Rattle.cb_member.specs.Sending.{HasSent, TellsLast, TrimsToStable}
use Rattle.cb_member.specs.State.{HasDelivered, Keeps}
use Rattle.cb_member.proofs.Reading.{time_at}
use Rattle.cb_member.proofs.HandingOn.{all_stay}
use Rattle.cb_member.proofs.Staying.{delivered_stays, received_stays}
use Rattle.cb_member.proofs.Values.{both_true, tells_more}

-- ---- searches over a row of members

any_over : (p q : ℕ → Bool) (a n : ℕ) → ((k : ℕ) → k < a + n → p k ≡ q k) → list_any p (range_with_len a n) ≡ list_any q (range_with_len a n)
any_over p q a zero same = refl
any_over p q a (suc n) same =
    ap (λ (b : Bool). b || list_any p (range_with_len (a + 1) n)) (same a (omega arith))
    ∙ ap (λ (b : Bool). q a || b) (any_over p q (a + 1) n (λ k lt. same k (omega (arith, lt))))

any_among : (p q r : Change → Bool) (ds : List Change) → list_all r ds ≡ true → ((d : Change) → r d ≡ true → p d ≡ q d) → list_any p ds ≡ list_any q ds
any_among p q r [] all same = refl
any_among p q r (d ∷ ds) all same =
    let parts = both_true (r d) (list_all r ds) all in
    ap (λ (b : Bool). b || list_any p ds) (same d parts.0) ∙ ap (λ (b : Bool). q d || b) (any_among p q r ds parts.1 same)

-- ---- what the rules say

-- of the members of the group the time counts what is delivered
pub ahead_is : (seat : Identity) (facts : List Fact) (d : Delivery) (values : List Change) → HasDelivered seat facts d → list_all (λ v. ltb v.field seat.group.size) values ≡ true
    → list_any (λ v. ltb (field d.time v.field) v.amount) values ≡ list_any (λ v. ltb (delivered seat facts v.field) v.amount) values
ahead_is seat facts d values has all =
    any_among (λ v. ltb (field d.time v.field) v.amount) (λ v. ltb (delivered seat facts v.field) v.amount) (λ v. ltb v.field seat.group.size) values all
    (λ v small. ap (λ (n : ℕ). ltb n v.amount) (time_at seat facts d v.field has (ltb-true v.field seat.group.size small)))

tells_is : (seat : Identity) (facts : List Fact) (k : Knowledge) (values : List Change) → KnowsFacts seat facts k
    → list_any (tells_more seat.me k.known values) (range_with_len 0 seat.group.size) ≡ list_any (λ i. not (eqb i seat.me) && ltb (known facts i) (value_in values i)) (range_with_len 0 seat.group.size)
tells_is seat facts k values knows =
    any_over (tells_more seat.me k.known values) (λ i. not (eqb i seat.me) && ltb (known facts i) (value_in values i)) 0 seat.group.size (λ i lt. elim (cases_eq i seat.me) [
      | inl own ↦ rw (eq-eqb i seat.me own) refl
      | inr other ↦ ap (λ (n : ℕ). not (eqb i seat.me) && ltb n (value_in values i)) (knows.heard i (omega (arith, lt)) other)
    ])

-- the value of a status for member i says more than its sender k is known to have delivered of i, who is not k
abbrev pub acknowledges_more : ℕ → Known → List Change → ℕ → Bool
acknowledges_more k acks values i = not (eqb i k) && ltb (count acks k i) (value_in values i)

acknowledges_is : (seat : Identity) (facts : List Fact) (known : Known) (k : ℕ) (values : List Change) → KnowsAcknowledged seat facts known → k < seat.group.size → k ≢ seat.me
    → list_any (acknowledges_more k known values) (range_with_len 0 seat.group.size) ≡ list_any (λ i. not (eqb i k) && ltb (acknowledged_of seat facts k i) (value_in values i)) (range_with_len 0 seat.group.size)
acknowledges_is seat facts known k values knows member other =
    any_over (acknowledges_more k known values) (λ i. not (eqb i k) && ltb (acknowledged_of seat facts k i) (value_in values i)) 0 seat.group.size
    (λ i lt. ap (λ (n : ℕ). not (eqb i k) && ltb n (value_in values i)) (knows.learnt k i member (omega (arith, lt)) other))

-- a status of another is news where it tells more of casts, or of what its sender delivered
pub news_is : (seat : Identity) (facts : List Fact) (k : Knowledge) (s : StatusFields) → KnowsFacts seat facts k → s.sender ≢ seat.me → s.sender < seat.group.size
    → is_news seat facts s ≡ (list_any (tells_more seat.me k.known s.values) (range_with_len 0 seat.group.size) || list_any (acknowledges_more s.sender k.acks s.values) (range_with_len 0 seat.group.size))
news_is seat facts k s knows other small =
    let told = tells_is seat facts k s.values knows in
    let acknowledged = acknowledges_is seat facts k.acks s.sender s.values knows.acknowledged small other in
    rw (ne_eqb s.sender seat.me other)
    (ap (λ (b : Bool). b || list_any (λ i. not (eqb i s.sender) && ltb (acknowledged_of seat facts s.sender i) (value_in s.values i)) (range_with_len 0 seat.group.size)) (sym told)
    ∙ ap (λ (b : Bool). list_any (tells_more seat.me k.known s.values) (range_with_len 0 seat.group.size) || b) (sym acknowledged))

-- ---- what is kept with one more status that came

no_cast_heard : (facts : List Fact) (s : StatusFields) → casts_in (facts ++ StatusReceived s ∷ []) ≡ casts_in facts
no_cast_heard facts s = casts_in-append facts (StatusReceived s) ∙ append-nil (casts_in facts)

-- a member's own status is no news to it
status_of_other : (seat : Identity) (facts : List Fact) (s : StatusFields) → AreFactsOf seat (facts ++ StatusReceived s ∷ []) → s.sender ≢ seat.me
status_of_other seat facts s are own =
    let news : is_news seat facts s ≡ true = (last_fact_is_a_step seat facts (StatusReceived s) are).change in
    let none : is_news seat facts s ≡ false = rw (eq-eqb s.sender seat.me own) refl in
    absurd (let both : false ≡ true = sym none ∙ news in cc)

knows_more : (seat : Identity) (facts : List Fact) (s : StatusFields) (old new : Knowledge) → AreFactsOf seat (facts ++ StatusReceived s ∷ []) → HearsStatus s old new → KnowsFacts seat facts old
    → KnowsFacts seat (facts ++ StatusReceived s ∷ []) new
knows_more seat facts s old new are hears knows = record {
  fields = hears.known.fields ∙ knows.fields;
  heard = λ i lt other.
      hears.known.raised i (omega (arith, lt, knows.fields)) ∙ ap (λ (n : ℕ). max n (value_in s.values i)) (knows.heard i lt other) ∙ sym (status_is_known facts s i);
  acknowledged = record {
    member = knows.acknowledged.member;
    of_size = hears.acks.of_size ∙ knows.acknowledged.of_size;
    learnt = λ k i member within other. by_sender k i (knows.acknowledged.learnt k i member within other) ∙ sym (status_is_acknowledged_of seat facts s k i);
    own = λ i within.
        hears.acks.members seat.me i (λ e. status_of_other seat facts s are (sym e)) ∙ knows.acknowledged.own i within
        ∙ ap (λ (ms : List Carried). view.count ms i) (sym (view_status seat.group.size facts s));
  };
}
  where
    by_sender : (k i : ℕ) → count old.acks k i ≡ acknowledged_of seat facts k i
        → count new.acks k i ≡ cond (eqb s.sender k) (max (acknowledged_of seat facts k i) (value_in s.values i)) (acknowledged_of seat facts k i)
    by_sender k i was = elim (cases_eq s.sender k) [
      | inl own ↦
          rw (eq-eqb s.sender k own)
          (ap (λ (m : ℕ). count new.acks m i) (sym own) ∙ hears.acks.said i
          ∙ ap (λ (n : ℕ). max n (value_in s.values i)) (ap (λ (m : ℕ). count old.acks m i) own ∙ was))
      | inr other ↦ rw (ne_eqb s.sender k other) (hears.acks.members k i (λ e. other (sym e)) ∙ was)
    ]

reported_stays : (seat : Identity) (facts : List Fact) (s : StatusFields) (reported : Bool) (time : List ℕ) → TellsLast seat facts reported time → TellsLast seat (facts ++ StatusReceived s ∷ []) reported time
reported_stays seat facts s true time tells = record { before = tells.before; last = last_status_with_one_more facts (StatusReceived s) None ∙ tells.last; said = tells.said }
reported_stays seat facts s false time tells = last_status_with_one_more facts (StatusReceived s) None ∙ tells

sent_stays : (seat : Identity) (facts : List Fact) (s : StatusFields) (k : Knowledge) (old new : Sending) → AreFactsOf seat (facts ++ StatusReceived s ∷ []) → KnowsFacts seat (facts ++ StatusReceived s ∷ []) k
    → TrimsToStable seat.me k.acks old.window new.window → new ≡ record old { window = new.window } → HasSent seat facts old → HasSent seat (facts ++ StatusReceived s ∷ []) new
sent_stays seat facts s k old new are knows trims rest sent =
    let stays : HasSent seat (facts ++ StatusReceived s ∷ []) (record old { window = new.window }) = record {
      window = trims seat facts (StatusReceived s) refl are refl knows.acknowledged sent.window;
      last_cast = sent.last_cast ∙ ap (time_of seat.group.size) (sym (upto_other facts (StatusReceived s) tt));
      fields = sent.fields;
      reported = reported_stays seat facts s old.has_reported old.last_reported sent.reported;
    } in
    subst (HasSent seat (facts ++ StatusReceived s ∷ [])) (sym rest) stays

-- the state that knows what the status says, and keeps what is not stable then, keeps the status as well
pub heard_keeps : RelaysStay → (state : State) (facts : List Fact) (s : StatusFields) (knowledge : Knowledge) (sending : Sending) (relays : Vec Relayed Global) (now_relays : List Relayed) → AreFactsOf state.seat (facts ++ StatusReceived s ∷ []) → Keeps facts state
    → HearsStatus s state.knowledge knowledge → TrimsToStable state.seat.me knowledge.acks state.sending.window sending.window → sending ≡ record state.sending { window = sending.window }
    → relays.items ≡ now_relays → TrimsRelays knowledge.acks state.relays.items now_relays → Keeps (facts ++ StatusReceived s ∷ []) (record state { knowledge = knowledge; sending = sending; relays = relays })
heard_keeps stay state facts s knowledge sending relays now_relays are keeps hears trims rest same lets_go =
    let seat = state.seat in
    let now = facts ++ StatusReceived s ∷ [] in
    let knows = knows_more seat facts s state.knowledge knowledge are hears keeps.knows in
    record {
      delivered = delivered_stays seat facts now state.delivery (no_cast_heard facts s) (view_status seat.group.size facts s) keeps.delivered;
      received = received_stays seat facts now state.reception (no_cast_heard facts s) keeps.received;
      knows = knows;
      sent = sent_stays seat facts s knowledge state.sending sending are knows trims rest keeps.sent;
      relayed = subst (KeepsAllRelays seat now) (sym same) (lets_go seat now are knows.acknowledged (all_stay stay seat facts (StatusReceived s) state.relays.items are (λ i other. tt) keeps.relayed));
    }

-- a status delivers nothing
pub none_delivered : (seat : Identity) (facts : List Fact) (s : StatusFields) → deliveries seat facts (StatusFrame s) ≡ []
none_delivered seat facts s =
    ap (map (message_in seat.group.size (casts_in (facts ++ StatusReceived s ∷ []))))
    (ap (drop (length (view seat.group.size facts))) (view_status seat.group.size facts s) ∙ drop_all (length (view seat.group.size facts)) (view seat.group.size facts) (omega arith))
