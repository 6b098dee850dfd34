-- What is kept is so of the facts with an own cast.
use Rattle.std.proofs.Common.{◌≡◌, ◌≢◌, ℕ, ◌<◌, Bool, true, false, List, ◌∷◌, [], ◌++◌, length, None, refl, sym, ap, subst, ◌∙◌, arith, inl, inr}
use Rattle.std.proofs.lemmas.Bool.{cases_eq}
use Rattle.cb_times.specs.Order.{field}
use Rattle.cb_frames.specs.Fields.{Load, CastFields, payloads_of}
use Rattle.cb_frames.proofs.Carried.{carries_payloads}
use Rattle.cb_stability.specs.Known.{Known, Learns, count}
use Rattle.cb_stability.specs.Sent.{Sent, Puts}
use Rattle.cb_history.specs.Group.{Identity}
use Rattle.cb_history.specs.Facts.{Fact, OwnCast, casts_in}
use Rattle.cb_history.specs.View.{counts, time_of}
use Rattle.cb_history.specs.Known.{expanded_count}
use Rattle.cb_history.specs.Answers.{delivered, next_cast, last_status}
use Rattle.cb_history.specs.LegalFacts.{AreFactsOf}
use Rattle.cb_history.specs.BufferLaws.{HoldsWhatWaits}
use Rattle.cb_history.specs.ExpanderLaws.{KeepsTimeOf}
use Rattle.cb_history.specs.RelayLaws.{RelaysStay}
use Rattle.cb_history.specs.StabilityLaws.{KnowsAcknowledged}
use Rattle.cb_history.specs.Singles.{singles_in}
use Rattle.cb_history.proofs.Views.{casts_in-append}
use Rattle.cb_history.proofs.Walks.{view_own}
use Rattle.cb_history.proofs.Delivering.{views_are_on_the_way}
use Rattle.cb_history.proofs.Taking.{own_facts_leave_waiting}
use Rattle.cb_history.proofs.Times.{count_grows, own_cast_counts, time_at, upto_own}
use Rattle.cb_history.proofs.Buffers.{other_singles_do_not_wait}
use Rattle.cb_history.proofs.Runs.{others_expand_nothing}
use Rattle.cb_history.proofs.Expanders.{kept_times_stay}
use Rattle.cb_history.proofs.RisingByCasts.{own_cast_acknowledges_nothing, own_cast_tells_nothing}
use Rattle.cb_history.proofs.Keeping.{put_is_own_cast}
use Rattle.cb_history.proofs.Statuses.{last_status_with_one_more}
use Rattle.cb_member.specs.declared.delivery.Delivery.{Delivery}
use Rattle.cb_member.specs.declared.reception.Reception.{Reception}
use Rattle.cb_member.specs.declared.knowledge.Knowledge.{Knowledge}
use Rattle.cb_member.specs.declared.sending.Sending.{Sending}
use Rattle.cb_member.specs.declared.state.State.{State}
use Rattle.cb_member.specs.Reception.{HasReceivedAll}
use Rattle.cb_member.specs.Knowledge.{KnowsFacts}
use Rattle.cb_member.specs.Sending.{TellsLast, HasSent}
use Rattle.cb_member.specs.State.{HasDelivered, Keeps}
use Rattle.cb_member.specs.Casting.{next_time, next_text}
use Rattle.cb_member.proofs.Receiving.{singles_with_cast}
use Rattle.cb_member.proofs.HandingOn.{all_stay}

abbrev with_cast : Identity → List Fact → Load → List Fact
with_cast seat facts load = facts ++ OwnCast (next_cast seat facts load) ∷ []

casts_with : (seat : Identity) (facts : List Fact) (load : Load) → casts_in (with_cast seat facts load) ≡ casts_in facts ++ next_cast seat facts load ∷ []
casts_with seat facts load = casts_in-append facts (OwnCast (next_cast seat facts load))

-- the counts with the cast are the time after it
time_with_cast : (seat : Identity) (facts : List Fact) (load : Load) → next_time seat facts load ≡ time_of seat.group.size (with_cast seat facts load)
time_with_cast seat facts load =
    ap (counts seat.group.size) (sym (view_own seat.group.size facts (next_cast seat facts load)))

delivered_with_cast : (seat : Identity) (facts : List Fact) (load : Load) (time : List ℕ) (d : Delivery) → AreFactsOf seat (with_cast seat facts load) → HasDelivered seat facts d
    → time ≡ next_time seat facts load → HasDelivered seat (with_cast seat facts load) (record d { time = time })
delivered_with_cast seat facts load time d are has at = record {
  waits = record {
    way = views_are_on_the_way seat (with_cast seat facts load) are;
    time = at ∙ time_with_cast seat facts load;
    queue = (own_facts_leave_waiting seat facts d.queue has.waits.queue).0 (next_cast seat facts load) are;
  };
  window = has.window;
}

received_with_cast : (seat : Identity) (facts : List Fact) (load : Load) (r : Reception) → AreFactsOf seat (with_cast seat facts load) → HasReceivedAll seat facts r
    → HasReceivedAll seat (with_cast seat facts load) r
received_with_cast seat facts load r are has =
    let c = next_cast seat facts load in
    let others : (i : ℕ) → i ≢ seat.me → seat.me ≢ i = λ i other e. other (sym e) in
    let count : (i : ℕ) → i ≢ seat.me → expanded_count (casts_in facts) i ≡ expanded_count (casts_in (with_cast seat facts load)) i = λ i other.
    sym (ap (λ (cs : List CastFields). expanded_count cs i) (casts_with seat facts load) ∙ others_expand_nothing (casts_in facts) c i (others i other)) in
    record {
      senders = has.senders;
      waits = λ i b at other. subst (λ (singles : List CastFields). HoldsWhatWaits singles i b) (sym (singles_with_cast facts (OwnCast c) c refl))
          (other_singles_do_not_wait (singles_in facts) i c b (has.waits i b at other) (others i other));
      taken_are = λ i b at other. has.taken_are i b at other ∙ count i other;
      windows = has.windows;
      times = λ i lt other. subst (λ (n : ℕ). KeepsTimeOf seat (with_cast seat facts load) i n r.expander) (count i other)
          (kept_times_stay seat facts (OwnCast c ∷ []) i (expanded_count (casts_in facts) i) r.expander are (omega arith) (has.times i lt other));
      stacks = has.stacks;
      spares = has.spares;
    }

-- with the cast as many own messages are delivered as the time then counts, of the others as many as before
own_with_cast : (seat : Identity) (facts : List Fact) (load : Load) (time : List ℕ) (old new : Known) (i : ℕ) → AreFactsOf seat (with_cast seat facts load) → KnowsAcknowledged seat facts old → time ≡ next_time seat facts load
    → Learns old new seat.me seat.me (field time seat.me) → i < seat.group.size → count new seat.me i ≡ delivered seat (with_cast seat facts load) i
own_with_cast seat facts load time old new i are knows at learns within = elim (cases_eq i seat.me) [
  | inl e ↦
      let reached : field time seat.me ≡ delivered seat (with_cast seat facts load) seat.me =
      ap (λ (ns : List ℕ). field ns seat.me) (at ∙ time_with_cast seat facts load) ∙ time_at seat.group.size (with_cast seat facts load) seat.me are.member in
      let before = knows.own seat.me are.member in
      let grows = count_grows seat.group.size facts (OwnCast (next_cast seat facts load)) seat.me in
      let own : count new seat.me seat.me ≡ delivered seat (with_cast seat facts load) seat.me = omega (arith, learns.learned, reached, before, grows) in
      subst (λ (j : ℕ). count new seat.me j ≡ delivered seat (with_cast seat facts load) j) (sym e) own
  | inr ne ↦ learns.senders seat.me i ne ∙ knows.own i within ∙ sym (own_cast_counts seat facts (next_cast seat facts load) i refl ne)
]

known_with_cast : (seat : Identity) (facts : List Fact) (load : Load) (time : List ℕ) (k : Knowledge) (new : Known) → AreFactsOf seat (with_cast seat facts load) → KnowsFacts seat facts k → time ≡ next_time seat facts load
    → Learns k.acks new seat.me seat.me (field time seat.me) → KnowsFacts seat (with_cast seat facts load) (record k { acks = new })
known_with_cast seat facts load time k new are has at learns = record {
  fields = has.fields;
  heard = λ i lt other. has.heard i lt other ∙ sym (own_cast_tells_nothing seat facts (next_cast seat facts load) i are lt other).0;
  acknowledged = record {
    member = are.member;
    of_size = learns.size ∙ has.acknowledged.of_size;
    learnt = λ j i member within other. learns.members j i other ∙ has.acknowledged.learnt j i member within other ∙ sym (own_cast_acknowledges_nothing seat facts (next_cast seat facts load) j i are other);
    own = λ i within. own_with_cast seat facts load time k.acks new i are has.acknowledged at learns within;
  };
}

-- the last status stays the last one
pub still_reported : (seat : Identity) (facts more : List Fact) (reported : Bool) (time : List ℕ) → last_status more None ≡ last_status facts None → TellsLast seat facts reported time → TellsLast seat more reported time
still_reported seat facts more true time same t = record { before = t.before; last = same ∙ t.last; said = t.said }
still_reported seat facts more false time same t = same ∙ t

sent_with_cast : (seat : Identity) (facts : List Fact) (load : Load) (time : List ℕ) (n : ℕ) (s : Sending) (window : Sent) → AreFactsOf seat (with_cast seat facts load) → HasSent seat facts s
    → time ≡ next_time seat facts load → n ≡ length (payloads_of load)
    → Puts s.window window n (next_text seat facts load)
    → HasSent seat (with_cast seat facts load) (record s { window = window; last_cast = time })
sent_with_cast seat facts load time n s window are has at many put =
    let c = next_cast seat facts load in
    record {
      window = put_is_own_cast seat facts c s.window window are has.window
          (subst (λ (m : ℕ). Puts s.window window m (next_text seat facts load)) (many ∙ sym (carries_payloads c)) put);
      last_cast = at ∙ time_with_cast seat facts load ∙ ap (time_of seat.group.size) (sym (upto_own facts c));
      fields = has.fields;
      reported = still_reported seat facts (with_cast seat facts load) s.has_reported s.last_reported (last_status_with_one_more facts (OwnCast c) None) has.reported;
    }

-- the state with the time and the frame of the next cast keeps that cast as well
pub cast_keeps : RelaysStay → (old : State) (facts : List Fact) (load : Load) (time last frame : List ℕ) (n : ℕ) (acks : Known) (window : Sent) → AreFactsOf old.seat (facts ++ OwnCast (next_cast old.seat facts load) ∷ []) → Keeps facts old
    → time ≡ next_time old.seat facts load → last ≡ next_time old.seat facts load → frame ≡ next_text old.seat facts load → n ≡ length (payloads_of load)
    → Learns old.knowledge.acks acks old.seat.me old.seat.me (field time old.seat.me) → Puts old.sending.window window n frame
    → Keeps (facts ++ OwnCast (next_cast old.seat facts load) ∷ [])
    (record old { delivery = record old.delivery { time = time }; knowledge = record old.knowledge { acks = acks }; sending = record old.sending { window = window; last_cast = last } })
cast_keeps stay old facts load time last frame n acks window are keeps at last_at is many learns put = record {
  delivered = delivered_with_cast old.seat facts load time old.delivery are keeps.delivered at;
  received = received_with_cast old.seat facts load old.reception are keeps.received;
  knows = known_with_cast old.seat facts load time old.knowledge acks are keeps.knows at learns;
  sent = sent_with_cast old.seat facts load last n old.sending window are keeps.sent last_at many
      (subst (Puts old.sending.window window n) is put);
  relayed = all_stay stay old.seat facts (OwnCast (next_cast old.seat facts load)) old.relays.items are (λ i other. tt) keeps.relayed;
}
