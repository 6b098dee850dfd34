-- A tick: whether its status is news, and what is kept once it is reported.
use Rattle.std.proofs.Common.{◌≡◌, ◌↔◌, ℕ, Bool, true, false, not, eqb, ltb, List, [], ◌∷◌, ◌++◌, length, map, Option, None, refl, sym, ap, ◌∙◌}
use Rattle.std.specs.List.{filter, range_with_len}
use Rattle.std.proofs.lemmas.List.{append-nil}
use Rattle.cb_frames.specs.Fields.{CastFields, Carried, StatusFields, last_number}
use Rattle.cb_stability.specs.Sent.{Sent}
use Rattle.cb_history.specs.Group.{Identity}
use Rattle.cb_history.specs.Facts.{Fact, OwnStatus, casts_in}
use Rattle.cb_history.specs.View.{count, time_of}
use Rattle.cb_history.specs.Known.{acknowledged, stable, least_of}
use Rattle.cb_history.specs.Answers.{own_casts, status_of, is_new_status, says_the_time}
use Rattle.cb_history.specs.LegalFacts.{AreFactsOf}
use Rattle.cb_history.specs.RelayLaws.{RelaysStay}
use Rattle.cb_history.specs.StabilityLaws.{KeepsOwnCasts, spanned_frame}
use Rattle.cb_history.proofs.Rising.{own_status_acknowledges_nothing, own_status_tells_nothing}
use Rattle.cb_history.proofs.Statuses.{last_status_with_one_more, new_status_is_a_new_time}
use Rattle.cb_history.proofs.Times.{upto_other}
use Rattle.cb_history.proofs.Views.{casts_in-append}
use Rattle.cb_history.proofs.Walks.{view_reported, own_casts-other}
use Rattle.cb_member.specs.declared.delivery.Delivery.{Delivery}
use Rattle.cb_member.specs.declared.knowledge.Knowledge.{Knowledge}
use Rattle.cb_member.specs.declared.sending.Sending.{Sending}
use Rattle.cb_member.specs.declared.state.State.{State}
use Rattle.cb_member.specs.Knowledge.{KnowsFacts}
use Rattle.cb_member.specs.Sending.{TellsLast, HasSent}
use Rattle.cb_member.specs.State.{HasDelivered, Keeps}
use Rattle.cb_member.proofs.Reading.{time_long}
use Rattle.cb_member.proofs.HandingOn.{all_stay}
use Rattle.cb_member.proofs.Staying.{delivered_stays, received_stays}

-- ---- whether the status is news

same_bool : (a b : Bool) → (a ≡ false → b ≡ false) → (b ≡ false → a ≡ false) → a ≡ b
same_bool true true f g = refl
same_bool true false f g = g refl
same_bool false true f g = sym (f refl)
same_bool false false f g = refl

by_last : (seat : Identity) (facts : List Fact) (time : List ℕ) (news reported : Bool) (last : List ℕ) → time ≡ time_of seat.group.size facts → TellsLast seat facts reported last
    → (news ≡ false) ↔ ((reported ≡ true) × (last ≡ time)) → news ≡ is_new_status seat facts
by_last seat facts time news false last at tells iff =
    let new : is_new_status seat facts ≡ true = ap (λ (o : Option StatusFields). not (says_the_time seat facts o)) tells in
    same_bool news (is_new_status seat facts) (λ old. absurd (let no = (iff.0 old).0 in cc)) (λ no. absurd cc)
by_last seat facts time news true last at tells iff =
    let law = new_status_is_a_new_time seat tells.before facts tells.last in
    same_bool news (is_new_status seat facts)
    (λ old. law.1 (sym tells.said ∙ (iff.0 old).1 ∙ at))
    (λ old. iff.1 (refl, tells.said ∙ law.0 old ∙ sym at))

pub news_is_new : (seat : Identity) (facts : List Fact) (d : Delivery) (s : Sending) (news : Bool) → HasDelivered seat facts d → HasSent seat facts s
    → (news ≡ false) ↔ ((s.has_reported ≡ true) × (s.last_reported ≡ d.time)) → news ≡ is_new_status seat facts
news_is_new seat facts d s news has sent iff = by_last seat facts d.time news s.has_reported s.last_reported has.waits.time sent.reported iff

-- the two times have as many fields
pub fields_agree : (state : State) (facts : List Fact) → Keeps facts state → length state.delivery.time ≡ length state.sending.last_reported
fields_agree state facts keeps = time_long state.seat facts state.delivery keeps.delivered ∙ sym keeps.sent.fields

-- ---- what is kept with one more own status

same_over : (f g : ℕ → ℕ) (ks : List ℕ) → ((k : ℕ) → f k ≡ g k) → map f ks ≡ map g ks
same_over f g [] same = refl
same_over f g (k ∷ ks) same = ap (λ (n : ℕ). n ∷ map f ks) (same k) ∙ ap (λ (ns : List ℕ). g k ∷ ns) (same_over f g ks same)

stable_stays : (seat : Identity) (facts : List Fact) (s : StatusFields) → stable seat (facts ++ OwnStatus s ∷ []) ≡ stable seat facts
stable_stays seat facts s =
    ap least_of (same_over (acknowledged seat (facts ++ OwnStatus s ∷ [])) (acknowledged seat facts) (filter (λ k. not (eqb k seat.me)) (range_with_len 0 seat.group.size)) (λ k. (own_status_tells_nothing seat facts s k).1))

window_stays : (seat : Identity) (facts : List Fact) (s : StatusFields) (sent : Sent) → KeepsOwnCasts seat facts sent → KeepsOwnCasts seat (facts ++ OwnStatus s ∷ []) sent
window_stays seat facts s sent keeps = record {
  width = keeps.width;
  put = keeps.put ∙ ap (λ (ms : List Carried). count ms seat.me) (sym (view_reported seat.group.size facts s));
  trimmed = keeps.trimmed ∙ sym (stable_stays seat facts s);
  kept = keeps.kept
      ∙ ap (λ (n : ℕ). map spanned_frame (filter (λ (c : CastFields). ltb n (last_number c)) (own_casts facts))) (sym (stable_stays seat facts s))
      ∙ ap (λ (cs : List CastFields). map spanned_frame (filter (λ (c : CastFields). ltb (stable seat (facts ++ OwnStatus s ∷ [])) (last_number c)) cs)) (sym (own_casts-other facts (OwnStatus s) tt));
}

knows_stays : (seat : Identity) (facts : List Fact) (s : StatusFields) (k : Knowledge) → KnowsFacts seat facts k → KnowsFacts seat (facts ++ OwnStatus s ∷ []) k
knows_stays seat facts s k knows = record {
  fields = knows.fields;
  heard = λ i lt other. knows.heard i lt other ∙ sym ((own_status_tells_nothing seat facts s i).0);
  acknowledged = record {
    member = knows.acknowledged.member;
    of_size = knows.acknowledged.of_size;
    learnt = λ k i member within other. knows.acknowledged.learnt k i member within other ∙ sym (own_status_acknowledges_nothing seat facts s k i);
    own = λ i within. knows.acknowledged.own i within ∙ ap (λ (ms : List Carried). count ms i) (sym (view_reported seat.group.size facts s));
  };
}

no_cast_reported : (facts : List Fact) (s : StatusFields) → casts_in (facts ++ OwnStatus s ∷ []) ≡ casts_in facts
no_cast_reported facts s = casts_in-append facts (OwnStatus s) ∙ append-nil (casts_in facts)

reported_sends : (seat : Identity) (facts : List Fact) (d : Delivery) (s : Sending) (time : List ℕ) → HasDelivered seat facts d → HasSent seat facts s → time ≡ d.time
    → HasSent seat (facts ++ OwnStatus (status_of seat facts) ∷ []) (record s { has_reported = true; last_reported = time })
reported_sends seat facts d s time has sent same = record {
  window = window_stays seat facts (status_of seat facts) s.window sent.window;
  last_cast = sent.last_cast ∙ ap (time_of seat.group.size) (sym (upto_other facts (OwnStatus (status_of seat facts)) tt));
  fields = ap length same ∙ time_long seat facts d has;
  reported = record { before = facts; last = last_status_with_one_more facts (OwnStatus (status_of seat facts)) None; said = same ∙ has.waits.time };
}

-- the state whose last status says its time keeps that status as well
pub reported_keeps : RelaysStay → (state : State) (facts : List Fact) (time : List ℕ) → AreFactsOf state.seat (facts ++ OwnStatus (status_of state.seat facts) ∷ []) → Keeps facts state → time ≡ state.delivery.time
    → Keeps (facts ++ OwnStatus (status_of state.seat facts) ∷ []) (record state { sending = record state.sending { has_reported = true; last_reported = time } })
reported_keeps stay state facts time are keeps same =
    let s = status_of state.seat facts in
    let now = facts ++ OwnStatus s ∷ [] in
    record {
      delivered = delivered_stays state.seat facts now state.delivery (no_cast_reported facts s) (view_reported state.seat.group.size facts s) keeps.delivered;
      received = received_stays state.seat facts now state.reception (no_cast_reported facts s) keeps.received;
      knows = knows_stays state.seat facts s state.knowledge keeps.knows;
      sent = reported_sends state.seat facts state.delivery state.sending time keeps.delivered keeps.sent same;
      relayed = all_stay stay state.seat facts (OwnStatus s) state.relays.items are (λ i other. tt) keeps.relayed;
    }
