-- Successions outlive restarts: what their laws rest on holds of members with journals too.
use Rattle.std.specs.Prelude.{slice_get, is_none}
use Rattle.std.specs.List.{filter, list_any, flat_map}
use Rattle.std.proofs.Common.{◌≡◌, ◌≢◌, ℕ, zero, suc, ◌+◌, ◌<◌, ◌≤◌, ◌⊎◌, ◌&&◌, true, false, eqb, ltb, leb, inl, inr, Option, List, [], ◌∷◌, ◌++◌, length, take, Some, None, refl, sym, ◌∙◌, ap, subst, arith, append-nil, append_assoc, take-take}
use Rattle.std.proofs.lemmas.Bool.{cases_Bool, cases_eq, cond_both, and_parts, eqb-true, eq-eqb, ltb-true, both_ways}
use Rattle.std.proofs.lemmas.List.{append_cancel_left, take-append-le}
use Rattle.std.proofs.lemmas.List.Elements.{filter-append}
use mathlib.Core.Path.{fun_ext}
use Rattle.cb_frames.specs.Fields.{Load, One, payloads_of, load_bytes, CastFields, Carried, messages_of, numbered}
use Rattle.cb_delay.specs.declared.message.Message.{Message}
use Rattle.cb_delay.specs.declared.message.Event.{Event}
use Rattle.cb_delay.specs.declared.message.Event.TheVariants.{Cast}
use Rattle.cb_causality.proofs.Counting.{take_whole, get_left, length_more}
use Rattle.std.proofs.lemmas.Option.{slice_get_within}
use Rattle.cb_history.specs.EventLaws.{casts_among}
use Rattle.cb_history.specs.Events.{events}
use Rattle.cb_history.specs.Facts.{EntryFields, facts_of, messages_in}
use Rattle.cb_history.specs.Answers.{own_casts, is_too_many}
use Rattle.cb_history.specs.Legal.{Call, ToCast, ToTake, ToTick, ToHelp, entry_of, and_entry, history_after}
use Rattle.cb_history.specs.View.{view}
use Rattle.cb_history.proofs.Lists.{any_of, each_of, flat_map-append, one_of}
use Rattle.cb_schedules.specs.Schedule.{Setting, IsSetting, seat_at, Step, CastStep, ArriveStep, TickStep, HelpStep, Asked, Calls, OfNoMember, OfNoFrame, OfNoBytes, are_bytes, asked_by, run}
use Rattle.cb_schedules.specs.Messages.{stamped_lists}
use Rattle.cb_schedules.specs.Consistent.{IsConsistent}
use Rattle.cb_schedules.specs.Restarts.{WaitingFrame, JournaledState, nothing_journaled, JournaledStep, EnterStep, WriteStep, SendStep, HandOutStep, RestartStep, WriteFirst, after_entering, after_writing, and_sent, and_handed, after_restart, journaled_step, without_dropped, there_now, written_entries}
use Rattle.cb_schedules.specs.RestartLaws.{written_events}
use Rattle.cb_schedules.specs.RoundLaws.{IsNoCastStep}
use Rattle.cb_schedules.specs.Succession.{Plan, EndableGroup, IsEndable, own_plan, is_own_end, upto_end, Begin, has_begun, may_talk, may_end, may_begin, shown_at_begin, SuccessionState}
use Rattle.cb_schedules.specs.SuccessionRestarts.{JournaledSuccessionStep, Journals, EntersEnd, WritesBegin, JournaledSuccession, succession_now, and_journals, and_enters_end, is_written, and_writes_begin, journaled_succession_step, journaled_succession_from, journaled_succession, EachJournaledSuccession, shown_written, WhatWasShownOutlivesRestarts}
use Rattle.cb_schedules.proofs.Courses.{runs_are_consistent}
use Rattle.cb_schedules.proofs.EndLists.{get_two, is_end, casts_of_both, filter_none, none_passes, upto_stays, upto_all}
use Rattle.cb_schedules.proofs.Journaled.{of_each, IsJournaled, starts, shows_more, front_stays, now_written, writes, step_holds}
use Rattle.cb_schedules.proofs.Later.{IsNoCast, MoreFacts, call_adds, no_cast, own_casts-append}
use Rattle.cb_schedules.proofs.Lists.{index_of, in_by_index}
use Rattle.cb_schedules.proofs.RestartLaws.{has_its_histories}
use Rattle.cb_schedules.proofs.SuccessionLaws.{EndsInTurn, BeganSo, IsSucceeding, own_end, stands_now}
use Rattle.cb_schedules.proofs.SuccessionSteps.{OwnMore, cast_adds, casts_of_more, messages_are, turn_stays, turn_talks, turn_ends, began_stays, AsksToTalk, may_talk_asks, AsksToEnd, may_end_asks}

-- ---- what there is now, as a consistent group

module _ (setting : Setting) (is : IsSetting setting) (r : JournaledState) (h : IsJournaled setting r) where
  pub now_consistent : IsConsistent setting (record { histories = r.histories; sent = (run setting (without_dropped r)).sent; outcomes = (run setting (without_dropped r)).outcomes })
  now_consistent =
      subst (λ (histories : ℕ → List EntryFields). IsConsistent setting (record { histories = histories; sent = (run setting (without_dropped r)).sent; outcomes = (run setting (without_dropped r)).outcomes }))
      (fun_ext (λ k. sym (has_its_histories setting is r h k))) (runs_are_consistent setting (without_dropped r) is)

-- ---- what is so after every list of steps

-- a begin was allowed by what its member had written
pub record BeganWritten (g : EndableGroup) (es written : List Event) (before : List Begin) (b : Begin) : Type 0 where
  pub so : BeganSo g es before b
  pub rest : List Event
  pub goes_on : written ≡ so.then_events ++ rest

pub record JournaledSo (g : EndableGroup) (x : JournaledSuccession) : Type 0 where
  pub journaled : IsJournaled g.setting x.journaled
  pub ends : (k : ℕ) → EndsInTurn g.plan_in (stamped_lists g.setting (there_now x.journaled) k)
  pub begins : (n : ℕ) (b : Begin) → slice_get x.begun n ≡ Some b
      → BeganWritten g (stamped_lists g.setting (there_now x.journaled) b.member) (written_events g.setting x.journaled b.member) (take n x.begun) b

-- so the laws hold of it
abbrev pub now_succeeds : (g : EndableGroup) → IsEndable g → (x : JournaledSuccession) → JournaledSo g x → IsSucceeding g (stamped_lists g.setting (there_now x.journaled)) x.begun
now_succeeds g endable x so = record {
  run = (now_consistent g.setting endable.is_setting x.journaled so.journaled).together.stamped;
  ends = so.ends;
  begins = λ n b at. (so.begins n b at).so;
}

module _ (g : EndableGroup) (endable : IsEndable g) (x : JournaledSuccession) (so : JournaledSo g x) where
  -- ---- what a step leaves of one member

  -- its events go on, and its written events too
  pub record GoesOnWritten (after : JournaledState) (k : ℕ) : Type 0 where
    pub ends : EndsInTurn g.plan_in (stamped_lists g.setting (there_now after) k)
    pub written : (more : List Event) × (written_events g.setting after k ≡ written_events g.setting x.journaled k ++ more)
    pub began : (n : ℕ) (b : Begin) → slice_get x.begun n ≡ Some b → b.member ≡ k
        → BeganWritten g (stamped_lists g.setting (there_now after) k) (written_events g.setting after k) (take n x.begun) b

  -- and what a step leaves of all
  pub record GoesOn (after : JournaledSuccession) : Type 0 where
    pub still : JournaledSo g after
    pub shows : (i : ℕ) → (more : List Event) × (shown_written g after i ≡ shown_written g x i ++ more)

  stays : GoesOn x
  stays = record { still = so; shows = λ i. ([], sym (append-nil (shown_written g x i))) }

  -- who has begun has an END among its events, and among those that are written
  began_ended : (n : ℕ) (b : Begin) → slice_get x.begun n ≡ Some b
      → (a : ℕ) × (m : Message) × (slice_get (stamped_lists g.setting (there_now x.journaled) b.member) a ≡ Some (Cast m)) × (g.plan_in m.payload ≡ Some b.plan)
      × (slice_get (written_events g.setting x.journaled b.member) a ≡ Some (Cast m))
  began_ended n b at =
      let succeeds = now_succeeds g endable x so in
      let (a, m, stood, text) = own_end g (stamped_lists g.setting (there_now x.journaled)) x.begun succeeds n b at in
      let written = so.begins n b at in (
        a,
        m,
        stands_now g (stamped_lists g.setting (there_now x.journaled)) x.begun succeeds n b at a (Cast m) stood,
        ap g.plan_in text ∙ written.so.read,
        ap (λ (es : List Event). slice_get es a) written.goes_on ∙ get_left written.so.then_events written.rest a (slice_get_within written.so.then_events a (Cast m) stood) ∙ stood,
      )

  abbrev its_begins : ℕ → List Event
  its_begins i = flat_map (λ (b : Begin). b.shown) (filter (λ (b : Begin). eqb b.member i) x.begun)

  -- who has written no END has not begun
  no_end_no_begin : (i : ℕ) → ((a : ℕ) (e : Event) → slice_get (written_events g.setting x.journaled i) a ≡ Some e → is_own_end g.plan_in e ≡ false)
      → flat_map (λ (b : Begin). b.shown) (filter (λ (b : Begin). eqb b.member i) x.begun) ≡ []
  no_end_no_begin i none =
      ap (flat_map (λ (b : Begin). b.shown)) (filter_none (λ (b : Begin). eqb b.member i) x.begun (λ n b at. by_test n b at (cases_Bool (eqb b.member i))))
    where
      by_test : (n : ℕ) (b : Begin) → slice_get x.begun n ≡ Some b → (eqb b.member i ≡ true) ⊎ (eqb b.member i ≡ false) → eqb b.member i ≡ false
      by_test n b at (inr fails) = fails
      by_test n b at (inl holds) =
          let same : b.member ≡ i = eqb-true b.member i holds in
          let (a, m, stands, read, written) = began_ended n b at in
          let here : slice_get (written_events g.setting x.journaled i) a ≡ Some (Cast m) = subst (λ (j : ℕ). slice_get (written_events g.setting x.journaled j) a ≡ Some (Cast m)) same written in
          let is : is_own_end g.plan_in (Cast m) ≡ true = is_end g.plan_in m b.plan read in
          let not_so : is_own_end g.plan_in (Cast m) ≡ false = none a (Cast m) here in
          absurd (cc)

  -- where more is written, more is shown or the same
  more_shown : (after : JournaledState) (i : ℕ) (more : List Event) → written_events g.setting after i ≡ written_events g.setting x.journaled i ++ more
      → (rest : List Event) × (shown_written g (record { journaled = after; begun = x.begun }) i ≡ shown_written g x i ++ rest)
  more_shown after i more is =
      elim (cases_Bool (list_any (is_own_end g.plan_in) (written_events g.setting x.journaled i))) [
        | inl some ↦
            let (e, there, holds) = one_of (is_own_end g.plan_in) (written_events g.setting x.journaled i) some in
            let (a, at) = index_of (written_events g.setting x.journaled i) e there in (
              [],
              ap (λ (es : List Event). es ++ its_begins i) (ap (upto_end g.plan_in) is ∙ upto_stays g.plan_in (written_events g.setting x.journaled i) more a e at holds)
                  ∙ sym (append-nil (shown_written g x i)),
            )
        | inr none ↦
            let no_end : (a : ℕ) (e : Event) → slice_get (written_events g.setting x.journaled i) a ≡ Some e → is_own_end g.plan_in e ≡ false =
            λ a e at. none_passes (is_own_end g.plan_in) (written_events g.setting x.journaled i) none a e at in
            let nothing = no_end_no_begin i no_end in
            let before : shown_written g x i ≡ written_events g.setting x.journaled i =
            ap (λ (es : List Event). upto_end g.plan_in (written_events g.setting x.journaled i) ++ es) nothing ∙ append-nil (upto_end g.plan_in (written_events g.setting x.journaled i))
            ∙ ap (upto_end g.plan_in) (sym (append-nil (written_events g.setting x.journaled i))) ∙ upto_all g.plan_in (written_events g.setting x.journaled i) [] no_end ∙ append-nil (written_events g.setting x.journaled i) in (
              upto_end g.plan_in more,
              ap (λ (es : List Event). upto_end g.plan_in (written_events g.setting after i) ++ es) nothing
                  ∙ append-nil (upto_end g.plan_in (written_events g.setting after i))
                  ∙ ap (upto_end g.plan_in) is ∙ upto_all g.plan_in (written_events g.setting x.journaled i) more no_end
                  ∙ ap (λ (es : List Event). es ++ upto_end g.plan_in more) (sym before),
            )
      ]

  and_goes_on : (step : JournaledStep) → ((k : ℕ) → GoesOnWritten (journaled_step WriteFirst g.setting x.journaled step) k) → GoesOn (and_journals g x step)
  and_goes_on step each = record {
    still = record {
      journaled = step_holds g.setting endable.is_setting x.journaled so.journaled step;
      ends = λ k. (each k).ends;
      begins = λ n b at. (each b.member).began n b at refl;
    };
    shows = λ i. more_shown (journaled_step WriteFirst g.setting x.journaled step) i (each i).written.0 (each i).written.1;
  }

  its_begin : (k n : ℕ) (b : Begin) → slice_get x.begun n ≡ Some b → b.member ≡ k
      → BeganWritten g (stamped_lists g.setting (there_now x.journaled) k) (written_events g.setting x.journaled k) (take n x.begun) b
  its_begin k n b at same =
      subst (λ (j : ℕ). BeganWritten g (stamped_lists g.setting (there_now x.journaled) j) (written_events g.setting x.journaled j) (take n x.begun) b) same (so.begins n b at)

  -- where memory has more, and the same is written
  more_in_memory : (after : JournaledState) (k : ℕ) (more : List Event)
      → stamped_lists g.setting (there_now after) k ≡ stamped_lists g.setting (there_now x.journaled) k ++ more
      → written_events g.setting after k ≡ written_events g.setting x.journaled k
      → EndsInTurn g.plan_in (stamped_lists g.setting (there_now x.journaled) k ++ more)
      → ((n : ℕ) (b : Begin) → slice_get x.begun n ≡ Some b → b.member ≡ k → casts_among more ≡ []) → GoesOnWritten after k
  more_in_memory after k more goes_on same_written ends quiet = record {
    ends = subst (EndsInTurn g.plan_in) (sym goes_on) ends;
    written = ([], same_written ∙ sym (append-nil (written_events g.setting x.journaled k)));
    began = λ n b at same.
        let old = its_begin k n b at same in
        subst (λ (es : List Event). BeganWritten g es (written_events g.setting after k) (take n x.begun) b) (sym goes_on) (record {
          so = began_stays g (stamped_lists g.setting (there_now x.journaled) k) more (take n x.begun) b old.so (quiet n b at same);
          rest = old.rest;
          goes_on = same_written ∙ old.goes_on;
        });
  }

  -- where memory is the same, and more is written
  more_is_written : (after : JournaledState) (k : ℕ) (more : List Event)
      → stamped_lists g.setting (there_now after) k ≡ stamped_lists g.setting (there_now x.journaled) k
      → written_events g.setting after k ≡ written_events g.setting x.journaled k ++ more → GoesOnWritten after k
  more_is_written after k more same goes_on = record {
    ends = subst (EndsInTurn g.plan_in) (sym same) (so.ends k);
    written = (more, goes_on);
    began = λ n b at member.
        let old = its_begin k n b at member in
        subst (λ (es : List Event). BeganWritten g es (written_events g.setting after k) (take n x.begun) b) (sym same) (record {
          so = old.so;
          rest = old.rest ++ more;
          goes_on = goes_on ∙ ap (λ (es : List Event). es ++ more) old.goes_on ∙ append_assoc old.so.then_events old.rest more;
        });
  }

  stays_so : (after : JournaledState) (k : ℕ) → after.histories k ≡ x.journaled.histories k → after.written k ≡ x.journaled.written k → GoesOnWritten after k
  stays_so after k same_histories same_written =
      let same : written_events g.setting after k ≡ written_events g.setting x.journaled k =
      ap (λ (n : ℕ). events (seat_at g.setting k) (facts_of (take n (after.histories k)))) same_written
      ∙ ap (λ (entries : List EntryFields). events (seat_at g.setting k) (facts_of (take (x.journaled.written k) entries))) same_histories in
      more_is_written after k [] (ap (λ (entries : List EntryFields). events (seat_at g.setting k) (facts_of entries)) same_histories)
      (same ∙ sym (append-nil (written_events g.setting x.journaled k)))

  -- ---- entering

  -- an entered call of a member leaves what is written as it was, and adds events
  module _ (i : ℕ) (call : Call) (h_after : IsJournaled g.setting (after_entering g.setting x.journaled (Calls i call))) where
    abbrev after : JournaledState
    after = after_entering g.setting x.journaled (Calls i call)

    abbrev history : List EntryFields
    history = history_after (seat_at g.setting i) g.setting.limit (x.journaled.histories i) call

    -- the entry stands behind those before it
    front : take (length (x.journaled.histories i)) history ≡ x.journaled.histories i
    front =
        front_stays (length (x.journaled.histories i)) (x.journaled.histories i) (entry_of (seat_at g.setting i) g.setting.limit (x.journaled.histories i) call) (omega arith)
        ∙ take_whole (x.journaled.histories i)

    grows : length (x.journaled.histories i) ≤ length history
    grows = by_entry (entry_of (seat_at g.setting i) g.setting.limit (x.journaled.histories i) call)
      where
        by_entry : (o : Option EntryFields) → length (x.journaled.histories i) ≤ length (and_entry (x.journaled.histories i) o)
        by_entry None = omega arith
        by_entry (Some e) = omega (arith, length_more (x.journaled.histories i) e)

    own_history : after.histories i ≡ history
    own_history = of_each (λ (n : ℕ) (entries : List EntryFields). n ≡ i → entries ≡ history) x.journaled.histories i history i (λ _. refl) (λ other _. absurd (other refl)) refl

    other_history : (k : ℕ) → k ≢ i → after.histories k ≡ x.journaled.histories k
    other_history k other =
        of_each (λ (n : ℕ) (entries : List EntryFields). n ≢ i → entries ≡ x.journaled.histories n) x.journaled.histories i history k (λ differ. absurd (differ refl)) (λ _ _. refl) other

    -- its events go on
    own_more : (more : List Event) × (stamped_lists g.setting (there_now after) i ≡ stamped_lists g.setting (there_now x.journaled) i ++ more)
    own_more =
        let shows = shows_more g.setting endable.is_setting after h_after i (length (x.journaled.histories i)) (length (after.histories i)) (subst (λ (entries : List EntryFields). length (x.journaled.histories i) ≤ length entries) (sym own_history) grows) in
        let whole : take (length (after.histories i)) (after.histories i) ≡ after.histories i = take_whole (after.histories i) in
        let old : take (length (x.journaled.histories i)) (after.histories i) ≡ x.journaled.histories i = ap (take (length (x.journaled.histories i))) own_history ∙ front in (
          shows.0,
          ap (λ (entries : List EntryFields). events (seat_at g.setting i) (facts_of entries)) (sym whole) ∙ shows.1
              ∙ ap (λ (entries : List EntryFields). events (seat_at g.setting i) (facts_of entries) ++ shows.0) old,
        )

    -- what it has written is the same
    own_written : written_events g.setting after i ≡ written_events g.setting x.journaled i
    own_written =
        ap (λ (entries : List EntryFields). events (seat_at g.setting i) (facts_of (take (x.journaled.written i) entries))) own_history
        ∙ ap (λ (entries : List EntryFields). events (seat_at g.setting i) (facts_of entries))
        (front_stays (x.journaled.written i) (x.journaled.histories i) (entry_of (seat_at g.setting i) g.setting.limit (x.journaled.histories i) call) (so.journaled.written i))

    -- the casts among them are those of more own casts
    own_casts_more : (extra : List CastFields) → own_casts (facts_of history) ≡ own_casts (facts_of (x.journaled.histories i)) ++ extra → casts_among own_more.0 ≡ messages_in extra
    own_casts_more extra own =
        casts_of_more g.setting
        (record { histories = x.journaled.histories; sent = (run g.setting (without_dropped x.journaled)).sent; outcomes = (run g.setting (without_dropped x.journaled)).outcomes })
        (record { histories = after.histories; sent = (run g.setting (without_dropped after)).sent; outcomes = (run g.setting (without_dropped after)).outcomes })
        (now_consistent g.setting endable.is_setting x.journaled so.journaled) (now_consistent g.setting endable.is_setting after h_after) i extra own_more.0 own_more.1
        (ap (λ (entries : List EntryFields). own_casts (facts_of entries)) own_history ∙ own)

    -- each other member stays
    other_stays : (k : ℕ) → k ≢ i → GoesOnWritten after k
    other_stays k other = stays_so after k (other_history k other) refl

    -- a call that casts nothing
    quiet_call : IsNoCast call → (k : ℕ) → GoesOnWritten after k
    quiet_call none k =
        elim (cases_eq k i) [
          | inl same ↦ subst (GoesOnWritten after) (sym same) at_own
          | inr other ↦ other_stays k other
        ]
      where
        at_own : GoesOnWritten after i
        at_own =
            let more : MoreFacts (facts_of (x.journaled.histories i)) (facts_of history) = call_adds (seat_at g.setting i) g.setting.limit (x.journaled.histories i) call none in
            let own : own_casts (facts_of history) ≡ own_casts (facts_of (x.journaled.histories i)) ++ [] =
            ap own_casts more.is ∙ own_casts-append (facts_of (x.journaled.histories i)) more.more ∙ ap (λ (cs : List CastFields). own_casts (facts_of (x.journaled.histories i)) ++ cs) more.none_own in
            let nothing : casts_among own_more.0 ≡ [] = own_casts_more [] own in
            more_in_memory after i own_more.0 own_more.1 own_written (turn_stays g.plan_in (stamped_lists g.setting (there_now x.journaled) i) own_more.0 (so.ends i) nothing) (λ n b at same. nothing)

  -- a call that casts a load
  module _ (i : ℕ) (load : Load)
      (ends : (more : List Event) (sender n : ℕ) → casts_among more ≡ numbered sender n (payloads_of load) → EndsInTurn g.plan_in (stamped_lists g.setting (there_now x.journaled) i ++ more))
      (not_begun : (n : ℕ) (b : Begin) → slice_get x.begun n ≡ Some b → b.member ≡ i → ⊥) where
    cast_call : i < g.setting.group.size → IsJournaled g.setting (after_entering g.setting x.journaled (Calls i (ToCast load))) → (k : ℕ) → GoesOnWritten (after_entering g.setting x.journaled (Calls i (ToCast load))) k
    cast_call lt h_after k =
        elim (cases_eq k i) [
          | inl same ↦ subst (GoesOnWritten (after_entering g.setting x.journaled (Calls i (ToCast load)))) (sym same) (by_own own.extra own.is own.which)
          | inr other ↦ other_stays i (ToCast load) h_after k other
        ]
      where
        own : OwnMore g.setting (record { histories = x.journaled.histories; sent = (run g.setting (without_dropped x.journaled)).sent; outcomes = (run g.setting (without_dropped x.journaled)).outcomes }) i load i
            (facts_of (x.journaled.histories i)) (facts_of (history_after (seat_at g.setting i) g.setting.limit (x.journaled.histories i) (ToCast load)))
        own =
            cast_adds g.setting endable.is_setting
            (record { histories = x.journaled.histories; sent = (run g.setting (without_dropped x.journaled)).sent; outcomes = (run g.setting (without_dropped x.journaled)).outcomes })
            (now_consistent g.setting endable.is_setting x.journaled so.journaled) i load lt

        by_own : (extra : List CastFields)
            → own_casts (facts_of (history_after (seat_at g.setting i) g.setting.limit (x.journaled.histories i) (ToCast load))) ≡ own_casts (facts_of (x.journaled.histories i)) ++ extra
            → ((extra ≡ []) ⊎ ((i ≡ i) × (c : CastFields) × (extra ≡ c ∷ []) × (c.load ≡ load) × (is_too_many (seat_at g.setting i) (facts_of (x.journaled.histories i)) (length (payloads_of load)) ≡ false)))
            → GoesOnWritten (after_entering g.setting x.journaled (Calls i (ToCast load))) i
        by_own extra is (inl none) =
            let nothing : casts_among (own_more i (ToCast load) h_after).0 ≡ [] = own_casts_more i (ToCast load) h_after extra is ∙ ap messages_in none in
            more_in_memory (after_entering g.setting x.journaled (Calls i (ToCast load))) i (own_more i (ToCast load) h_after).0 (own_more i (ToCast load) h_after).1 (own_written i (ToCast load) h_after)
            (turn_stays g.plan_in (stamped_lists g.setting (there_now x.journaled) i) (own_more i (ToCast load) h_after).0 (so.ends i) nothing) (λ n b at same. nothing)
        by_own extra is (inr (same, c, one, of_load, free)) =
            let says : casts_among (own_more i (ToCast load) h_after).0 ≡ numbered c.sender c.number (payloads_of load) =
            own_casts_more i (ToCast load) h_after extra is ∙ ap messages_in one ∙ append-nil (messages_of c) ∙ messages_are c ∙ ap (λ (l : Load). numbered c.sender c.number (payloads_of l)) of_load in
            more_in_memory (after_entering g.setting x.journaled (Calls i (ToCast load))) i (own_more i (ToCast load) h_after).0 (own_more i (ToCast load) h_after).1 (own_written i (ToCast load) h_after)
            (ends (own_more i (ToCast load) h_after).0 c.sender c.number says) (λ n b at member. absurd (not_begun n b at member))

    enters_cast : GoesOn (and_journals g x (EnterStep (CastStep i load)))
    unfolding journaled_step
    enters_cast = and_goes_on (EnterStep (CastStep i load)) (λ k. by_asked k (step_holds g.setting endable.is_setting x.journaled so.journaled (EnterStep (CastStep i load))))
      where
        Goes : ℕ → Asked → Type 0
        Goes k asked = IsJournaled g.setting (after_entering g.setting x.journaled asked) → GoesOnWritten (after_entering g.setting x.journaled asked) k

        nothing : (k : ℕ) → GoesOnWritten x.journaled k
        nothing k = stays_so x.journaled k refl refl

        by_asked : (k : ℕ) → IsJournaled g.setting (after_entering g.setting x.journaled (asked_by g.setting x.journaled.sent (CastStep i load)))
            → GoesOnWritten (after_entering g.setting x.journaled (asked_by g.setting x.journaled.sent (CastStep i load))) k
        by_asked k =
            cond_both (ltb i g.setting.group.size) _ _ (Goes k)
            (λ inside. cond_both (are_bytes (load_bytes load)) (Calls i (ToCast load)) OfNoBytes (Goes k) (λ all h_after. cast_call (ltb-true i g.setting.group.size inside) h_after k) (λ _ _. nothing k))
            (λ _ _. nothing k)

  -- a step in which nobody casts
  enters_other : (step : Step) → IsNoCastStep step → GoesOn (and_journals g x (EnterStep step))
  unfolding journaled_step
  enters_other step none =
      and_goes_on (EnterStep step) (λ k. by_asked (asked_by g.setting x.journaled.sent step) (no_cast g.setting x.journaled.sent step none)
      (step_holds g.setting endable.is_setting x.journaled so.journaled (EnterStep step)) k)
    where
      by_asked : (asked : Asked) → ((i : ℕ) (load : Load) → asked ≡ Calls i (ToCast load) → ⊥) → IsJournaled g.setting (after_entering g.setting x.journaled asked)
          → (k : ℕ) → GoesOnWritten (after_entering g.setting x.journaled asked) k
      by_asked (Calls i (ToCast load)) no_load h_after k = absurd (no_load i load refl)
      by_asked (Calls i (ToTake bytes)) no_load h_after k = quiet_call i (ToTake bytes) h_after tt k
      by_asked (Calls i ToTick) no_load h_after k = quiet_call i ToTick h_after tt k
      by_asked (Calls i (ToHelp j)) no_load h_after k = quiet_call i (ToHelp j) h_after tt k
      by_asked OfNoMember no_load h_after k = stays_so x.journaled k refl refl
      by_asked OfNoFrame no_load h_after k = stays_so x.journaled k refl refl
      by_asked OfNoBytes no_load h_after k = stays_so x.journaled k refl refl

  -- ---- writing, sending, handing out, restarts

  writes_entry : (j : ℕ) → GoesOn (and_journals g x (WriteStep j))
  unfolding journaled_step
  writes_entry j = and_goes_on (WriteStep j) (λ k. each k)
    where
      Writes : ℕ → ℕ → Type 0
      Writes k n = (more : List Event) × (events (seat_at g.setting k) (facts_of (take n (x.journaled.histories k))) ≡ written_events g.setting x.journaled k ++ more)

      each : (k : ℕ) → GoesOnWritten (after_writing x.journaled j) k
      each k =
          let shows : Writes k ((after_writing x.journaled j).written k) =
          of_each (λ (n m : ℕ). Writes n m) x.journaled.written j (now_written g.setting x.journaled so.journaled j) k
          (shows_more g.setting endable.is_setting x.journaled so.journaled j (x.journaled.written j) (now_written g.setting x.journaled so.journaled j) (writes g.setting x.journaled so.journaled j))
          (λ other. ([], sym (append-nil (written_events g.setting x.journaled k)))) in
          more_is_written (after_writing x.journaled j) k shows.0 refl shows.1

  sends : (j n : ℕ) → GoesOn (and_journals g x (SendStep j n))
  unfolding journaled_step
  sends j n = and_goes_on (SendStep j n) (λ k. each k (slice_get (x.journaled.waiting j) n))
    where
      each : (k : ℕ) (o : Option WaitingFrame) → GoesOnWritten (and_sent WriteFirst x.journaled j n o) k
      each k None = stays_so x.journaled k refl refl
      each k (Some w) =
          cond_both (leb w.behind (x.journaled.written j)) _ x.journaled (λ (after : JournaledState). GoesOnWritten after k) (λ _. stays_so _ k refl refl) (λ _. stays_so x.journaled k refl refl)

  hands_out : (j : ℕ) → GoesOn (and_journals g x (HandOutStep j))
  unfolding journaled_step
  hands_out j = and_goes_on (HandOutStep j) (λ k. each k (slice_get (events (seat_at g.setting j) (facts_of (written_entries x.journaled j))) (length (x.journaled.handed j))))
    where
      each : (k : ℕ) (o : Option Event) → GoesOnWritten (and_handed x.journaled j o) k
      each k None = stays_so x.journaled k refl refl
      each k (Some e) = stays_so (and_handed x.journaled j (Some e)) k refl refl

  restarts : (j : ℕ) → GoesOn (and_journals g x (RestartStep j))
  unfolding journaled_step
  restarts j = and_goes_on (RestartStep j) (λ k. each k)
    where
      whole : (more : List Event) × (events (seat_at g.setting j) (facts_of (take (length (x.journaled.histories j)) (x.journaled.histories j))) ≡ written_events g.setting x.journaled j ++ more)
      whole = shows_more g.setting endable.is_setting x.journaled so.journaled j (x.journaled.written j) (length (x.journaled.histories j)) (so.journaled.written j)

      -- what was in memory is what is written, and more
      lists_were : stamped_lists g.setting (there_now x.journaled) j ≡ written_events g.setting x.journaled j ++ whole.0
      lists_were = ap (λ (entries : List EntryFields). events (seat_at g.setting j) (facts_of entries)) (sym (take_whole (x.journaled.histories j))) ∙ whole.1

      own_history : (after_restart x.journaled j).histories j ≡ written_entries x.journaled j
      own_history = of_each (λ (n : ℕ) (entries : List EntryFields). n ≡ j → entries ≡ written_entries x.journaled j) x.journaled.histories j (written_entries x.journaled j) j (λ _. refl) (λ other _. absurd (other refl)) refl

      lists_are : stamped_lists g.setting (there_now (after_restart x.journaled j)) j ≡ written_events g.setting x.journaled j
      lists_are = ap (λ (entries : List EntryFields). events (seat_at g.setting j) (facts_of entries)) own_history

      written_is : written_events g.setting (after_restart x.journaled j) j ≡ written_events g.setting x.journaled j
      written_is =
          ap (λ (entries : List EntryFields). events (seat_at g.setting j) (facts_of (take (x.journaled.written j) entries))) own_history
          ∙ ap (λ (entries : List EntryFields). events (seat_at g.setting j) (facts_of entries)) (take-take (x.journaled.written j) (x.journaled.written j) (x.journaled.histories j) (omega arith))

      -- ENDs stay in turn in what is left of a list
      shorter : EndsInTurn g.plan_in (written_events g.setting x.journaled j)
      shorter = record {
        in_turn = λ a b u v plan less at_a at_b read.
            (so.ends j).in_turn a b u v plan less (longer a (Cast u) at_a) (longer b (Cast v) at_b) read;
      }
        where
          longer : (a : ℕ) (e : Event) → slice_get (written_events g.setting x.journaled j) a ≡ Some e → slice_get (stamped_lists g.setting (there_now x.journaled) j) a ≡ Some e
          longer a e at =
              ap (λ (es : List Event). slice_get es a) lists_were
              ∙ get_left (written_events g.setting x.journaled j) whole.0 a (slice_get_within (written_events g.setting x.journaled j) a e at) ∙ at

      nothing_of : (xs ys : List Carried) → xs ++ ys ≡ [] → xs ≡ []
      nothing_of [] ys none = refl
      nothing_of (c ∷ xs) ys none = absurd (cc)

      at_own : GoesOnWritten (after_restart x.journaled j) j
      at_own = record {
        ends = subst (EndsInTurn g.plan_in) (sym lists_are) shorter;
        written = ([], written_is ∙ sym (append-nil (written_events g.setting x.journaled j)));
        began = λ n b at same.
            let old = its_begin j n b at same in
            let tail : old.so.more ≡ old.rest ++ whole.0 =
            append_cancel_left old.so.then_events old.so.more (old.rest ++ whole.0)
            (sym old.so.goes_on ∙ lists_were ∙ ap (λ (es : List Event). es ++ whole.0) old.goes_on ∙ append_assoc old.so.then_events old.rest whole.0) in
            let quiet : casts_among old.rest ≡ [] =
            nothing_of (casts_among old.rest) (casts_among whole.0) (sym (casts_of_both old.rest whole.0) ∙ ap casts_among (sym tail) ∙ old.so.quiet) in
            subst (λ (es : List Event). BeganWritten g es (written_events g.setting (after_restart x.journaled j) j) (take n x.begun) b) (sym lists_are) (record {
              so = record {
                read = old.so.read;
                then_events = old.so.then_events;
                more = old.rest;
                goes_on = old.goes_on;
                quiet = quiet;
                may = old.so.may;
                shown = old.so.shown;
              };
              rest = old.rest;
              goes_on = written_is ∙ old.goes_on;
            });
      }

      each : (k : ℕ) → GoesOnWritten (after_restart x.journaled j) k
      each k =
          elim (cases_eq k j) [
            | inl same ↦ subst (GoesOnWritten (after_restart x.journaled j)) (sym same) at_own
            | inr other ↦
                stays_so (after_restart x.journaled j) k
                (of_each (λ (n : ℕ) (entries : List EntryFields). n ≢ j → entries ≡ x.journaled.histories n) x.journaled.histories j (written_entries x.journaled j) k (λ differ. absurd (differ refl)) (λ _ _. refl) other) refl
          ]

  -- ---- what is allowed

  talks : (i : ℕ) (load : Load) → may_talk g (there_now x.journaled) i load ≡ true → GoesOn (and_journals g x (EnterStep (CastStep i load)))
  talks i load may =
      enters_cast i load
      (λ more sender n casts. turn_talks g.plan_in (stamped_lists g.setting (there_now x.journaled) i) more sender n (payloads_of load) casts one.talk one.quiet)
      (λ n b at same. by_end n b at same (began_ended n b at))
    where
      one : AsksToTalk g (there_now x.journaled) i load
      one = may_talk_asks g (there_now x.journaled) i load may

      by_end : (n : ℕ) (b : Begin) → slice_get x.begun n ≡ Some b → b.member ≡ i
          → ((a : ℕ) × (m : Message) × (slice_get (stamped_lists g.setting (there_now x.journaled) b.member) a ≡ Some (Cast m)) × (g.plan_in m.payload ≡ Some b.plan)
          × (slice_get (written_events g.setting x.journaled b.member) a ≡ Some (Cast m))) → ⊥
      by_end n b at same (a, m, stands, read, stands_written) =
          let here : slice_get (stamped_lists g.setting (there_now x.journaled) i) a ≡ Some (Cast m) = subst (λ (j : ℕ). slice_get (stamped_lists g.setting (there_now x.journaled) j) a ≡ Some (Cast m)) same stands in
          let none : is_none (g.plan_in m.payload) ≡ true =
          each_of (λ e. is_none (own_plan g.plan_in e)) (stamped_lists g.setting (there_now x.journaled) i) (Cast m) one.quiet (in_by_index (stamped_lists g.setting (there_now x.journaled) i) a (Cast m) here) in
          let some : is_none (Some b.plan) ≡ true = ap is_none (sym read) ∙ none in
          cc

  ends_by : (i : ℕ) (text : List ℕ) (plan : Plan) → g.plan_in text ≡ Some plan → may_end g x.begun (stamped_lists g.setting (there_now x.journaled) i) i plan ≡ true
      → GoesOn (and_journals g x (EnterStep (CastStep i (One text))))
  ends_by i text plan read may =
      enters_cast i (One text)
      (λ more sender n casts. turn_ends g.plan_in (stamped_lists g.setting (there_now x.journaled) i) more sender n text plan (so.ends i) casts read asks_for.further)
      (λ n b at same. both_ways (has_begun x.begun i) asks_for.first (any_of (λ (c : Begin). eqb c.member i) x.begun b (in_by_index x.begun n b at) (eq-eqb b.member i same)))
    where
      asks_for : AsksToEnd g x.begun (stamped_lists g.setting (there_now x.journaled) i) i plan
      asks_for = may_end_asks g x.begun (stamped_lists g.setting (there_now x.journaled) i) i plan may

  begins_by : (i : ℕ) (text : List ℕ) (plan : Plan) → g.plan_in text ≡ Some plan
      → (is_written x.journaled i && may_begin g x.begun (stamped_lists g.setting (there_now x.journaled) i) i text plan) ≡ true
      → GoesOn (record { journaled = x.journaled; begun = x.begun ++ record { member = i; text = text; plan = plan; shown = shown_at_begin g (stamped_lists g.setting (there_now x.journaled) i) text plan } ∷ [] })
  begins_by i text plan read may = record {
    still = record {
      journaled = so.journaled;
      ends = so.ends;
      begins = λ n b at. by_place n b (get_two x.begun (new ∷ []) n b at);
    };
    shows = λ k. (
      flat_map (λ (c : Begin). c.shown) (filter (λ (c : Begin). eqb c.member k) (new ∷ [])),
      ap (λ (bs : List Begin). upto_end g.plan_in (written_events g.setting x.journaled k) ++ flat_map (λ (c : Begin). c.shown) bs) (filter-append (λ (c : Begin). eqb c.member k) x.begun (new ∷ []))
          ∙ ap (λ (es : List Event). upto_end g.plan_in (written_events g.setting x.journaled k) ++ es)
          (flat_map-append (λ (c : Begin). c.shown) (filter (λ (c : Begin). eqb c.member k) x.begun) (filter (λ (c : Begin). eqb c.member k) (new ∷ [])))
          ∙ sym (append_assoc (upto_end g.plan_in (written_events g.setting x.journaled k)) (its_begins k) (flat_map (λ (c : Begin). c.shown) (filter (λ (c : Begin). eqb c.member k) (new ∷ [])))),
    );
  }
    where
      both : (is_written x.journaled i ≡ true) × (may_begin g x.begun (stamped_lists g.setting (there_now x.journaled) i) i text plan ≡ true)
      both = and_parts (is_written x.journaled i) (may_begin g x.begun (stamped_lists g.setting (there_now x.journaled) i) i text plan) may

      new : Begin
      new = record { member = i; text = text; plan = plan; shown = shown_at_begin g (stamped_lists g.setting (there_now x.journaled) i) text plan }

      all_written : written_events g.setting x.journaled i ≡ stamped_lists g.setting (there_now x.journaled) i
      all_written =
          ap (λ (n : ℕ). events (seat_at g.setting i) (facts_of (take n (x.journaled.histories i)))) (eqb-true (x.journaled.written i) (length (x.journaled.histories i)) both.0)
          ∙ ap (λ (entries : List EntryFields). events (seat_at g.setting i) (facts_of entries)) (take_whole (x.journaled.histories i))

      new_so : BeganWritten g (stamped_lists g.setting (there_now x.journaled) i) (written_events g.setting x.journaled i) x.begun new
      new_so = record {
        so = record {
          read = read;
          then_events = stamped_lists g.setting (there_now x.journaled) i;
          more = [];
          goes_on = sym (append-nil (stamped_lists g.setting (there_now x.journaled) i));
          quiet = refl;
          may = both.1;
          shown = refl;
        };
        rest = [];
        goes_on = all_written ∙ sym (append-nil (stamped_lists g.setting (there_now x.journaled) i));
      }

      by_place : (n : ℕ) (b : Begin) → ((n < length x.begun) × (slice_get x.begun n ≡ Some b)) ⊎ ((j : ℕ) × (n ≡ length x.begun + j) × (slice_get (new ∷ []) j ≡ Some b))
          → BeganWritten g (stamped_lists g.setting (there_now x.journaled) b.member) (written_events g.setting x.journaled b.member) (take n (x.begun ++ new ∷ [])) b
      by_place n b (inl old) =
          subst (λ (l : List Begin). BeganWritten g (stamped_lists g.setting (there_now x.journaled) b.member) (written_events g.setting x.journaled b.member) l b)
          (sym (take-append-le n x.begun (new ∷ []) (omega (arith, old.0)))) (so.begins n b old.1)
      by_place n b (inr (zero, last, at)) =
          let is : new ≡ b = cc in
          let all : take n (x.begun ++ new ∷ []) ≡ x.begun =
          ap (λ (m : ℕ). take m (x.begun ++ new ∷ [])) (omega (arith, last)) ∙ take-append-le (length x.begun) x.begun (new ∷ []) (omega arith) ∙ take_whole x.begun in
          subst (λ (c : Begin). BeganWritten g (stamped_lists g.setting (there_now x.journaled) c.member) (written_events g.setting x.journaled c.member) (take n (x.begun ++ new ∷ [])) c) is
          (subst (λ (l : List Begin). BeganWritten g (stamped_lists g.setting (there_now x.journaled) i) (written_events g.setting x.journaled i) l new) (sym all) new_so)
      by_place n b (inr (suc j, last, at)) = absurd (cc)

  -- so by each step
  pub journaled_step_is_so : (step : JournaledSuccessionStep) → GoesOn (journaled_succession_step g x step)
  unfolding journaled_succession_step
  journaled_step_is_so (Journals (EnterStep (CastStep i load))) =
      cond_both (may_talk g (there_now x.journaled) i load) (and_journals g x (EnterStep (CastStep i load))) x GoesOn (talks i load) (λ _. stays)
  journaled_step_is_so (Journals (EnterStep (ArriveStep j number))) = enters_other (ArriveStep j number) tt
  journaled_step_is_so (Journals (EnterStep (TickStep i))) = enters_other (TickStep i) tt
  journaled_step_is_so (Journals (EnterStep (HelpStep j i))) = enters_other (HelpStep j i) tt
  journaled_step_is_so (Journals (WriteStep j)) = writes_entry j
  journaled_step_is_so (Journals (SendStep j n)) = sends j n
  journaled_step_is_so (Journals (HandOutStep j)) = hands_out j
  journaled_step_is_so (Journals (RestartStep j)) = restarts j
  journaled_step_is_so (EntersEnd i text) = by_plan (g.plan_in text) refl
    where
      by_plan : (o : Option Plan) → g.plan_in text ≡ o → GoesOn (and_enters_end g x i text o)
      by_plan None read = stays
      by_plan (Some plan) read =
          cond_both (may_end g x.begun (stamped_lists g.setting (there_now x.journaled) i) i plan) (and_journals g x (EnterStep (CastStep i (One text)))) x GoesOn (ends_by i text plan read) (λ _. stays)
  journaled_step_is_so (WritesBegin i text) = by_plan (g.plan_in text) refl
    where
      by_plan : (o : Option Plan) → g.plan_in text ≡ o → GoesOn (and_writes_begin g x i text o)
      by_plan None read = stays
      by_plan (Some plan) read =
          cond_both (is_written x.journaled i && may_begin g x.begun (stamped_lists g.setting (there_now x.journaled) i) i text plan) _ x GoesOn (begins_by i text plan read) (λ _. stays)

-- ---- all steps

at_first : (g : EndableGroup) → IsEndable g → JournaledSo g (record { journaled = nothing_journaled; begun = [] })
unfolding view
at_first g endable = record {
  journaled = starts g.setting;
  ends = λ k. record { in_turn = λ a b u v plan less at_a at_b read. absurd (cc) };
  begins = λ n b at. absurd (cc);
}

journaled_so_from : (g : EndableGroup) → IsEndable g → (x : JournaledSuccession) → JournaledSo g x → (steps : List JournaledSuccessionStep) → JournaledSo g (journaled_succession_from g x steps)
unfolding journaled_succession_from
journaled_so_from g endable x so [] = so
journaled_so_from g endable x so (step ∷ steps) = journaled_so_from g endable (journaled_succession_step g x step) (journaled_step_is_so g endable x so step).still steps

pub journaled_successions_are_so : (g : EndableGroup) → IsEndable g → (steps : List JournaledSuccessionStep) → JournaledSo g (journaled_succession g steps)
journaled_successions_are_so g endable steps = journaled_so_from g endable (record { journaled = nothing_journaled; begun = [] }) (at_first g endable) steps

pub each_journaled_succession : (P : EndableGroup → SuccessionState → Type 0)
    → ((g : EndableGroup) (t : SuccessionState) → IsSucceeding g (stamped_lists g.setting t.group) t.begun → P g t) → EachJournaledSuccession P
each_journaled_succession P holds g steps endable =
    holds g (succession_now (journaled_succession g steps)) (now_succeeds g endable (journaled_succession g steps) (journaled_successions_are_so g endable steps))

journaled_joins : (g : EndableGroup) (x : JournaledSuccession) (steps more : List JournaledSuccessionStep)
    → journaled_succession_from g x (steps ++ more) ≡ journaled_succession_from g (journaled_succession_from g x steps) more
unfolding journaled_succession_from
journaled_joins g x [] more = refl
journaled_joins g x (step ∷ steps) more = journaled_joins g (journaled_succession_step g x step) steps more

one_step : (g : EndableGroup) (x : JournaledSuccession) (step : JournaledSuccessionStep) → journaled_succession_from g x (step ∷ []) ≡ journaled_succession_step g x step
unfolding journaled_succession_from
one_step g x step = refl

pub what_was_shown_outlives_restarts : WhatWasShownOutlivesRestarts
what_was_shown_outlives_restarts g steps step i endable =
    let (more, is) = (journaled_step_is_so g endable (journaled_succession g steps) (journaled_successions_are_so g endable steps) step).shows i in (
      more,
      ap (λ (x : JournaledSuccession). shown_written g x i)
          (journaled_joins g (record { journaled = nothing_journaled; begun = [] }) steps (step ∷ []) ∙ one_step g (journaled_succession g steps) step) ∙ is,
    )
