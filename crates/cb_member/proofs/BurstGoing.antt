-- A burst that is delivered as a whole: it is as if it had been taken in, and what was ready had been delivered then.
use Rattle.std.proofs.Common.{◌≡◌, ◌≢◌, ℕ, zero, suc, ◌+◌, ◌-◌, ◌<◌, ◌≤◌, cond, eqb, max, List, [], ◌∷◌, ◌++◌, length, map, set, refl, sym, ap, subst, ◌∙◌, arith, inl, inr}
use Rattle.std.specs.FinMap as fin
use Rattle.std.specs.List.{range_with_len}
use Rattle.std.proofs.lemmas.Bool.{cases_eq, eq-eqb, ne_eqb}
use Rattle.std.proofs.lemmas.List.{length-set, get_or-set_same, get_or-set_other}
use Rattle.cb_times.specs.Order.{field}
use Rattle.cb_frames.specs.Carrying.{AreNumberedFrom}
use Rattle.cb_frames.specs.declared.frame.Burst.{Burst}
use Rattle.cb_frames.specs.Fields.{IsSome, CastFields, Carried, burst_fields, messages_of, first_number, last_number}
use Rattle.cb_frames.proofs.Carried.{carried_in_order, carried_up_to_the_last, carries_some}
use Rattle.cb_delay.specs.declared.message.Event.{Event}
use Rattle.cb_delay.specs.Rule.{IsReady}
use Rattle.cb_diffs.specs.Expansion.{expanded_field, time_of, IsGrown, IsNext}
use Rattle.cb_history.specs.Facts.{Fact, CastReceived, casts_in, numbers_between}
use Rattle.cb_history.specs.View.{view, message_in}
use Rattle.cb_history.specs.Known.{greatest_of, known, expanded_count}
use Rattle.cb_history.specs.LegalFacts.{AreFactsOf}
use Rattle.cb_history.specs.WaitingLaws.{HoldsTakenOf}
use Rattle.cb_history.proofs.Views.{IsIn, casts_in-append}
use Rattle.cb_history.proofs.Delivering.{in_field}
use Rattle.cb_history.proofs.Prefixes.{last_fact_is_a_step}
use Rattle.cb_history.proofs.Runs.{others_expand_nothing}
use Rattle.cb_history.proofs.Taking.{cast_waits_for_its_turn}
use Rattle.cb_member.specs.declared.delivery.Delivery.{Delivery}
use Rattle.cb_member.specs.declared.knowledge.Knowledge.{Knowledge}
use Rattle.cb_member.specs.declared.reception.Reception.{Reception}
use Rattle.cb_member.specs.declared.state.State.{State}
use Rattle.cb_member.specs.Course.{GoesAllAlone, TakesAndDelivers}
use Rattle.cb_member.specs.Delivery.{Drains}
use Rattle.cb_member.specs.Passing.{IsInOrder, TakesBurst, carried_at, burst_delivered}
use Rattle.cb_member.specs.State.{Keeps}
use Rattle.cb_member.specs.Taking.{CanFollow, HasTakenIn, Hears, HoldsMore, OnlyTakesIn, TakesIn, TakesInCast, heard_with, taken_with}
use Rattle.cb_member.proofs.BurstQueue.{with_all, put_more, holds_all, all_drain}
use Rattle.cb_member.proofs.BurstTimes.{all_come_out, burst_is_next, burst_message, burst_time, comes_behind, its_kept_time, time_long}
use Rattle.cb_member.proofs.Courses.{time_is_long}
use Rattle.cb_member.proofs.Passing.{ready_is_heard}
use Rattle.cb_member.proofs.Receiving.{received_alike}
use Rattle.cb_member.proofs.TakingIn.{ends, number_heard, of_member, sender_is_counted}

greatest_at_most : (f : ℕ → ℕ) (v a n : ℕ) → ((k : ℕ) → a ≤ k → k < a + n → f k ≤ v) → greatest_of (map f (range_with_len a n)) ≤ v
greatest_at_most f v a zero each = omega arith
greatest_at_most f v a (suc n) each =
    let here = each a (omega arith) (omega arith) in
    let rest = greatest_at_most f v (a + 1) n (λ k low high. each k (omega (arith, low)) (omega (arith, high))) in
    omega (arith, here, rest)

heard_still : (n x g : ℕ) → n ≡ x → g ≤ n → n ≡ max x g
heard_still n x g same few = omega (arith, same, few)

upto_the_max : (n t : ℕ) → n ≡ max n t → t ≤ n
upto_the_max n t is = omega (arith, is)

-- ---- what a burst in order has

module _ (c : CastFields) (old : State) (can : CanFollow c old) (in_order : IsInOrder c.sender (first_number c) old.reception) where
  -- it is its sender's next frame
  pub next_burst : IsNext old.reception.expander c
  next_burst =
      burst_is_next old.seat can.facts c can.legal old.reception.expander (its_kept_time c old.reception in_order old.seat can.facts can.legal can.keeps.received)
      (comes_behind c old.reception in_order old.seat can.facts can.legal can.keeps.received)

pub goes_as_whole : (burst : Burst) (time : List ℕ) (deliveries : List Event) (state : State) → CanFollow (burst_fields burst) state → IsInOrder burst.sender (first_number (burst_fields burst)) state.reception
    → fin.len state.delivery.queue.held ≡ 0 → IsGrown (time_of state.reception.expander burst.sender) (burst_fields burst) time
    → IsReady burst.sender (field time) (field state.delivery.time) → deliveries ≡ burst_delivered (burst_fields burst) time → GoesAllAlone (burst_fields burst) time deliveries state
goes_as_whole burst time deliveries state can in_order none grown ready are =
    record { can = can; many = λ single. single; in_order = in_order; none_held = none; grown = grown; ready = ready; are_all = are }

-- ---- it is taken in

module _ (c : CastFields) (time : List ℕ) (deliveries : List Event) (old : State) (goes : GoesAllAlone c time deliveries old) (reception : Reception) (known_then : Knowledge)
    (takes : TakesBurst c old.reception reception) (hears : Hears c.sender (last_number c) old.knowledge known_then) where
  abbrev can : CanFollow c old
  can = goes.can

  -- as the state would be with all messages held
  abbrev waits : Delivery
  waits = record old.delivery { queue = with_all time old.delivery.queue (messages_of c) }

  abbrev taken_in : State
  taken_in = record old { delivery = record old.delivery { queue = with_all time old.delivery.queue (messages_of c) }; reception = reception; knowledge = known_then }

  some : IsSome c.load
  some = (last_fact_is_a_step old.seat can.facts (CastReceived c) can.legal).load.some

  filled : first_number c ≤ last_number c
  filled = carries_some c some

  only : OnlyTakesIn old taken_in
  only = record { seat = refl; time = refl; acks = hears.acks; sending = refl; relays = refl }

  long : length time ≡ old.seat.group.size
  long = time_long old.seat can.facts c can.legal old.reception.expander (its_kept_time c old.reception goes.in_order old.seat can.facts can.legal can.keeps.received)
      (comes_behind c old.reception goes.in_order old.seat can.facts can.legal can.keeps.received) time goes.grown

  -- on some facts that are kept
  module _ (facts : List Fact) (are : AreFactsOf old.seat (facts ++ CastReceived c ∷ [])) (keeps : Keeps facts old) where
    abbrev low : ℕ
    low = expanded_count (casts_in facts) c.sender

    abbrev casts : List CastFields
    casts = casts_in (facts ++ CastReceived c ∷ [])

    behind : first_number c ≡ expanded_count (casts_in facts) c.sender + 1
    behind = comes_behind c old.reception goes.in_order old.seat facts are keeps.received

    come_out : expanded_count (casts_in (facts ++ CastReceived c ∷ [])) c.sender ≡ last_number c
    come_out = all_come_out c old.reception goes.in_order old.seat facts are keeps.received

    told : (m : Carried) → IsIn m (messages_of c) → carried_at time m ≡ message_in old.seat.group.size (casts_in (facts ++ CastReceived c ∷ [])) m
    told = burst_message old.seat facts c are old.reception.expander (its_kept_time c old.reception goes.in_order old.seat facts are keeps.received) behind time goes.grown

    -- the time of the message of this number
    told_field : (n i : ℕ) → first_number c ≤ n → n ≤ last_number c → i < old.seat.group.size → expanded_field (casts_in facts ++ c ∷ []) c.sender n i ≡ field (set time c.sender n) i
    told_field n i from upto lt =
        ap (λ (cs : List CastFields). expanded_field cs c.sender n i) (sym (casts_in-append facts (CastReceived c)))
        ∙ sym (in_field old.seat.group.size (expanded_field casts c.sender n) i lt)
        ∙ ap (λ (t : List ℕ). field t i) (sym (burst_time old.seat facts c are old.reception.expander (its_kept_time c old.reception goes.in_order old.seat facts are keeps.received) behind time goes.grown n from upto))

    heard_number : (i : ℕ) → i < old.seat.group.size → i ≢ old.seat.me → field known_then.known i ≡ max (known facts i) (cond (eqb c.sender i) (last_number c) 0)
    heard_number i lt other = ap (λ (ns : List ℕ). field ns i) hears.known
        ∙ number_heard facts c i old.knowledge.known (let fields = keeps.knows.fields in omega (arith, fields, lt)) (keeps.knows.heard i lt other)

    -- what a message says of member i was heard of
    no_news : (i n : ℕ) → i < old.seat.group.size → i ≢ old.seat.me → first_number c ≤ n → n ≤ last_number c → expanded_field (casts_in facts ++ c ∷ []) c.sender n i ≤ field known_then.known i
    no_news i n lt other from upto =
        let told_so = told_field n i from upto lt in
        elim (cases_eq i c.sender) [
          | inl e ↦
              let stamped : field (set time c.sender n) i ≡ n = ap (field (set time c.sender n)) e ∙ get_or-set_same time c.sender n 0 (omega (arith, long, of_member old.seat facts c are)) in
              let last : cond (eqb c.sender i) (last_number c) 0 ≡ last_number c = rw (eq-eqb c.sender i (sym e)) refl in
              let heard = heard_number i lt other in
              omega (arith, told_so, stamped, last, heard, upto)
          | inr ne ↦
              let stamped : field (set time c.sender n) i ≡ field time i = get_or-set_other time c.sender i n 0 ne in
              let few = upto_the_max (field known_then.known i) (field time i) (ready_is_heard c old known_then time can hears goes.grown.own goes.ready i other) in
              omega (arith, told_so, stamped, few)
        ]

    all_heard : (i : ℕ) → i < old.seat.group.size → i ≢ old.seat.me → field known_then.known i ≡ heard_with facts c (expanded_count (casts_in (facts ++ CastReceived c ∷ [])) c.sender) i
    all_heard i lt other =
        let value : ℕ → ℕ = λ n. expanded_field (casts_in facts ++ c ∷ []) c.sender n i in
        let count = expanded_count (casts_in (facts ++ CastReceived c ∷ [])) c.sender in
        heard_still (field known_then.known i) (max (known facts i) (cond (eqb c.sender i) (last_number c) 0)) (greatest_of (map value (numbers_between low count))) (heard_number i lt other)
        (greatest_at_most value (field known_then.known i) (low + 1) (count - low)
        (λ n above upto. no_news i n lt other (omega (arith, above, behind)) (omega (arith, upto, come_out, behind, filled))))

    row : AreNumberedFrom c.sender (low + 1) (messages_of c)
    row = subst (λ (n : ℕ). AreNumberedFrom c.sender n (messages_of c)) behind (carried_in_order c)

    as_many : low + length (messages_of c) ≡ expanded_count (casts_in (facts ++ CastReceived c ∷ [])) c.sender
    as_many = omega (arith, carried_up_to_the_last c some, behind, come_out)

    all_held : HoldsTakenOf old.seat.group.size (casts_in (facts ++ CastReceived c ∷ [])) (view old.seat.group.size facts) c.sender (expanded_count (casts_in (facts ++ CastReceived c ∷ [])) c.sender) waits.queue
    all_held = subst (λ (n : ℕ). HoldsTakenOf old.seat.group.size casts (view old.seat.group.size facts) c.sender n waits.queue) as_many
        (holds_all old.seat facts c are time told come_out old.delivery.queue low (messages_of c) row (λ m there. there) (omega arith)
        (cast_waits_for_its_turn old.seat facts c old.delivery.queue are keeps.delivered.waits.queue))

    held_more : HoldsMore (expanded_count (casts_in (facts ++ CastReceived c ∷ [])) c.sender - expanded_count (casts_in facts) c.sender) old taken_in
    held_more =
        let more = put_more time old.delivery.queue.held (messages_of c) c.sender (low + 1) goes.none_held row in
        omega (arith, more, as_many)

    takes_all : TakesIn facts c (expanded_count (casts_in (facts ++ CastReceived c ∷ [])) c.sender) taken_in
    takes_all = record {
      legal = are;
      at_least = omega (arith, come_out, behind, filled);
      received = received_alike old.seat (facts ++ CastReceived c ∷ []) (expanded_count (casts_in (facts ++ CastReceived c ∷ []))) (taken_with facts c (expanded_count (casts_in (facts ++ CastReceived c ∷ [])) c.sender)) reception
          (λ i. elim (cases_eq i c.sender) [
            | inl e ↦ rw (eq-eqb i c.sender e) (ap (expanded_count (casts_in (facts ++ CastReceived c ∷ []))) (sym e))
            | inr ne ↦ rw (ne_eqb i c.sender ne)
                (sym (ap (λ (cs : List CastFields). expanded_count cs i) (casts_in-append facts (CastReceived c)) ∙ others_expand_nothing (casts_in facts) c i (λ e. ne (sym e))))
          ]) (takes old.seat facts are keeps.received);
      queue = all_held;
      window = keeps.delivered.window;
      fields = ap (λ (ns : List ℕ). length ns) hears.known ∙ length-set old.knowledge.known c.sender _ ∙ keeps.knows.fields;
      heard = all_heard;
    }

    has_taken : HasTakenIn facts c old taken_in
    has_taken = ends facts c old old taken_in are keeps refl refl only (record { takes = takes_all; held = held_more })

  takes_it : TakesInCast c old taken_in
  takes_it = record { takes_in = has_taken; only = only }

  -- the count of the sender's delivered messages
  starts_behind : field old.delivery.time c.sender + 1 ≡ first_number c
  starts_behind = sym goes.ready.next ∙ goes.grown.own

  pub goes_all : (before : List Event) → TakesAndDelivers c old (record old { delivery = record old.delivery { time = set old.delivery.time c.sender (last_number c) }; reception = reception; knowledge = known_then }) before (before ++ deliveries)
  goes_all before =
      let count : field old.delivery.time c.sender + length (messages_of c) ≡ last_number c = omega (arith, starts_behind, carried_up_to_the_last c some) in
      let drains = all_drain time old.delivery c.sender (sender_is_counted c old can) (long ∙ sym (time_is_long c old can)) goes.ready.others goes.none_held (messages_of c) before
      (subst (λ (n : ℕ). AreNumberedFrom c.sender n (messages_of c)) (sym starts_behind) (carried_in_order c)) in
      record {
        waits = waits;
        takes_in = takes_it;
        drains = subst (λ (events : List Event). Drains waits (record old.delivery { time = set old.delivery.time c.sender (last_number c) }) before (before ++ events)) (sym goes.are_all)
            (subst (λ (n : ℕ). Drains waits (record old.delivery { time = set old.delivery.time c.sender n }) before (before ++ burst_delivered c time)) count drains);
      }
