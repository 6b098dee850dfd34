-- A member that hears nothing more of another one stays within a window of what that one had delivered.
use Rattle.std.specs.Prelude.{slice_get}
use Rattle.std.specs.List.{flat_map}
use Rattle.std.proofs.Common.{◌≡◌, ◌≢◌, ℕ, zero, suc, ◌+◌, ◌<◌, ◌≤◌, Bool, true, cond, eqb, inl, inr, List, [], ◌∷◌, ◌++◌, length, take, Some, refl, sym, ◌∙◌, ap, subst, arith, append-nil, append_assoc, eqb-true}
use Rattle.std.proofs.lemmas.Bool.{cond_both}
use Rattle.cb_times.specs.Order.{field}
use Rattle.cb_frames.specs.Fields.{StatusFields}
use Rattle.cb_delay.specs.declared.message.Message.{Message}
use Rattle.cb_delay.specs.declared.message.Event.{Event}
use Rattle.cb_delay.specs.declared.message.Event.TheVariants.{Cast, Deliver}
use Rattle.cb_delay.specs.Message.{message_of}
use Rattle.cb_causality.specs.Events.{count, Has}
use Rattle.cb_causality.specs.Laws.{IsOrPrecedes}
use Rattle.cb_causality.specs.StampedMachine.{erased, without_time, without_times}
use Rattle.cb_causality.proofs.Counting.{get_map, count_mono}
use Rattle.cb_causality.proofs.Extending.{stamped_extends_runs}
use Rattle.cb_causality.proofs.Names.{number_of_had}
use Rattle.cb_causality.proofs.PastStands.{stands_up_to, cast_at_sender}
use Rattle.cb_causality.proofs.Runs.{IsRegular, run_regular}
use Rattle.cb_causality.proofs.Stamps.{stamped_is_causal, times_count_the_past, name_stays}
use Rattle.cb_diffs.specs.Expansion.{expanded_field}
use Rattle.cb_history.specs.Events.{event_in}
use Rattle.cb_history.specs.Facts.{Fact, OwnCast, CastReceived, StatusReceived, OwnStatus, casts_in}
use Rattle.cb_history.specs.Known.{greatest_of, value_in, reported_by, counted_by, acknowledged_of, acknowledged_by, stable_of, stable}
use Rattle.cb_history.specs.Answers.{delivered}
use Rattle.cb_history.specs.View.{view, message_in}
use Rattle.cb_history.proofs.EverySender.{stable_of_me}
use Rattle.cb_history.proofs.Keeping.{least_at_most, others_of, other_in}
use Rattle.cb_history.proofs.Rising.{greatest_append, all_at_most}
use Rattle.cb_history.proofs.Windows.{own_casts_are_near_stable}
use Rattle.cb_schedules.specs.Schedule.{Setting, IsSetting, seat_at, Schedule, GroupState, step_after, run_from}
use Rattle.cb_schedules.specs.Messages.{facts_at, stamped_lists}
use Rattle.cb_schedules.specs.Consistent.{IsConsistent}
use Rattle.cb_schedules.specs.Succession.{EndableGroup, the_rules, SuccessionStep, SuccessionState, succession_step, succession_from, nobody_yet, succession}
use Rattle.cb_schedules.specs.LeftOut.{WhoHearsNothingMoreStaysWithin}
use Rattle.cb_schedules.proofs.Courses.{step_goes_on}
use Rattle.cb_schedules.proofs.EndLists.{get_two}
use Rattle.cb_history.proofs.Delivering.{in_field}
use Rattle.cb_schedules.proofs.GoingOn.{runs_join_from}
use Rattle.cb_schedules.proofs.Headlines.{counted, sent_statuses_are_so}
use Rattle.cb_schedules.proofs.Knowing.{value_below}
use Rattle.cb_schedules.proofs.Lists.{index_of}
use Rattle.cb_schedules.proofs.SuccessionRounds.{group_steps}
use Rattle.cb_schedules.proofs.SuccessionSteps.{SuccessionSo, successions_are_so}
use Rattle.cb_schedules.proofs.Successions.{succession_joins}

-- ---- events go on

steps_from : (g : EndableGroup) (t : SuccessionState) (steps : List SuccessionStep) → (more : Schedule) × ((succession_from the_rules g t steps).group ≡ run_from g.setting t.group more)
unfolding succession_from run_from
steps_from g t [] = ([], refl)
steps_from g t (step ∷ steps) =
    let (first, is_first) = group_steps g t step in
    let (rest, is_rest) = steps_from g (succession_step the_rules g t step) steps in
    (first ++ rest, is_rest ∙ ap (λ (s : GroupState). run_from g.setting s rest) is_first ∙ sym (runs_join_from g.setting t.group first rest))

events_go_on : (setting : Setting) → IsSetting setting → (s : GroupState) → IsConsistent setting s → (steps : Schedule) (k : ℕ)
    → (more : List Event) × (stamped_lists setting (run_from setting s steps) k ≡ stamped_lists setting s k ++ more)
unfolding run_from
events_go_on setting is s inv [] k = ([], sym (append-nil (stamped_lists setting s k)))
events_go_on setting is s inv (step ∷ steps) k =
    let goes = step_goes_on setting is s inv step in
    let (first, is_first) = (stamped_extends_runs setting.group.size).beginning (stamped_lists setting s) (stamped_lists setting (step_after setting s step)) goes.1 k in
    let (rest, is_rest) = events_go_on setting is (step_after setting s step) goes.0 steps k in
    (first ++ rest, is_rest ∙ ap (λ (es : List Event). es ++ rest) is_first ∙ append_assoc (stamped_lists setting s k) first rest)

-- ---- what is known of member i

module _ (setting : Setting) (s now : GroupState) (inv : IsConsistent setting s) (inv_now : IsConsistent setting now) (x i : ℕ)
    (lt_x : x < setting.group.size) (lt_i : i < setting.group.size) (other : x ≢ i)
    (goes_on : (more : List Event) × (stamped_lists setting now i ≡ stamped_lists setting s i ++ more))
    (statuses : (n : ℕ) (status : StatusFields) → slice_get (facts_at now x) n ≡ Some (StatusReceived status) → status.sender ≡ i
    → value_in status.values x ≤ delivered (seat_at setting i) (facts_at s i) x)
    (casts : delivered (seat_at setting x) (facts_at now x) i ≤ delivered (seat_at setting i) (facts_at s i) i) where
  -- from statuses
  reported : (fs : List Fact) → ((n : ℕ) (status : StatusFields) → slice_get fs n ≡ Some (StatusReceived status) → status.sender ≡ i → value_in status.values x ≤ delivered (seat_at setting i) (facts_at s i) x)
      → greatest_of (flat_map (reported_by i x) fs) ≤ delivered (seat_at setting i) (facts_at s i) x
  reported [] each = omega arith
  reported (OwnCast c ∷ fs) each = reported fs (λ n status at. each (suc n) status at)
  reported (CastReceived c ∷ fs) each = reported fs (λ n status at. each (suc n) status at)
  reported (OwnStatus t ∷ fs) each = reported fs (λ n status at. each (suc n) status at)
  reported (StatusReceived t ∷ fs) each =
      let others = reported fs (λ n status at. each (suc n) status at) in
      cond_both (eqb t.sender i) (value_in t.values x ∷ []) [] (λ (ns : List ℕ). greatest_of (ns ++ flat_map (reported_by i x) fs) ≤ delivered (seat_at setting i) (facts_at s i) x)
      (λ same. let here = each 0 t refl (eqb-true t.sender i same) in omega (arith, here, others)) (λ differs. others)

  regular : IsRegular (erased (stamped_lists setting s))
  regular = run_regular setting.group.size (erased (stamped_lists setting s)) (stamped_is_causal setting.group.size (stamped_lists setting s) inv.together.stamped)

  regular_now : IsRegular (erased (stamped_lists setting now))
  regular_now = run_regular setting.group.size (erased (stamped_lists setting now)) (stamped_is_causal setting.group.size (stamped_lists setting now) inv_now.together.stamped)

  -- a message of i that x has was cast then
  cast_then : (a : ℕ) (e : Event) → slice_get (stamped_lists setting now x) a ≡ Some e → (message_of e).name.sender ≡ i
      → (b : ℕ) × (slice_get (stamped_lists setting s i) b ≡ Some (Cast (message_of e)))
  cast_then a e at sender =
      let (b, cast) = cast_at_sender setting.group.size (stamped_lists setting now) inv_now.together.stamped x a e at in
      let at_i : slice_get (stamped_lists setting now i) b ≡ Some (Cast (message_of e)) = subst (λ (k : ℕ). slice_get (stamped_lists setting now k) b ≡ Some (Cast (message_of e))) sender cast in
      elim (get_two (stamped_lists setting s i) goes_on.0 b (Cast (message_of e)) (ap (λ (es : List Event). slice_get es b) (sym goes_on.1) ∙ at_i)) [
        | inl first ↦ (b, first.1)
        | inr rest ↦ absurd (too_late b rest.0 rest.1 at_i)
      ]
    where
      too_late : (b j : ℕ) → b ≡ length (stamped_lists setting s i) + j → slice_get (stamped_lists setting now i) b ≡ Some (Cast (message_of e)) → ⊥
      too_late b j is at_i =
          let stands : slice_get (erased (stamped_lists setting now) i) b ≡ Some (without_time (Cast (message_of e))) = get_map without_time (stamped_lists setting now i) b (Cast (message_of e)) at_i in
          let number : (message_of e).name.number ≡ count (message_of e).name.sender (take b (erased (stamped_lists setting now) i)) + 1 =
          regular_now.sound.in_order (record { member = i; index = b }) (without_time (Cast (message_of e))) stands in
          let number_i : (message_of e).name.number ≡ count i (take b (erased (stamped_lists setting now) i)) + 1 =
          subst (λ (k : ℕ). (message_of e).name.number ≡ count k (take b (erased (stamped_lists setting now) i)) + 1) sender number in
          let front : take (length (stamped_lists setting s i)) (erased (stamped_lists setting now) i) ≡ without_times (stamped_lists setting s i) =
          ap (λ (es : List Event). take (length (stamped_lists setting s i)) (without_times es)) goes_on.1 ∙ front_of (stamped_lists setting s i) goes_on.0 in
          let most : count i (take (length (stamped_lists setting s i)) (erased (stamped_lists setting now) i)) ≤ count i (take b (erased (stamped_lists setting now) i)) =
          count_mono _ (erased (stamped_lists setting now) i) (length (stamped_lists setting s i)) b (omega arith) in
          let counts : count i (take (length (stamped_lists setting s i)) (erased (stamped_lists setting now) i)) ≡ delivered (seat_at setting i) (facts_at s i) i =
          ap (count i) front ∙ counted setting s inv i i in
          let has : Has (erased (stamped_lists setting now) x) (message_of e).name =
          record { index = a; event = without_time e; stands = get_map without_time (stamped_lists setting now x) a e at; named = name_stays e } in
          let had : (message_of e).name.number ≤ count (message_of e).name.sender (erased (stamped_lists setting now) x) = (number_of_had (erased (stamped_lists setting now)) regular_now.sound x (message_of e).name has).1 in
          let had_i : (message_of e).name.number ≤ count i (erased (stamped_lists setting now) x) =
          subst (λ (k : ℕ). (message_of e).name.number ≤ count k (erased (stamped_lists setting now) x)) sender had in
          let known : count i (erased (stamped_lists setting now) x) ≡ delivered (seat_at setting x) (facts_at now x) i = counted setting now inv_now x i in
          omega arith
        where
          front_of : (es more : List Event) → take (length es) (without_times (es ++ more)) ≡ without_times es
          front_of [] more = refl
          front_of (y ∷ es) more = ap (λ (l : List _). without_time y ∷ l) (front_of es more)

  -- so its time counts no more of x than i had delivered
  time_counts : (a : ℕ) (e : Event) → slice_get (stamped_lists setting now x) a ≡ Some e → (message_of e).name.sender ≡ i
      → field (message_of e).time x ≤ delivered (seat_at setting i) (facts_at s i) x
  time_counts a e at sender =
      let (b, cast) = cast_then a e at sender in
      by_field (field (message_of e).time x) refl b cast
    where
      by_field : (t : ℕ) → field (message_of e).time x ≡ t → (b : ℕ) → slice_get (stamped_lists setting s i) b ≡ Some (Cast (message_of e)) → field (message_of e).time x ≤ delivered (seat_at setting i) (facts_at s i) x
      by_field zero is b cast = omega arith
      by_field (suc t) is b cast =
          let reaches : IsOrPrecedes (erased (stamped_lists setting s)) (record { sender = x; number = suc t }) (message_of e).name =
          (times_count_the_past setting.group.size (stamped_lists setting s) inv.together.stamped (message_of e).name (message_of e).time
          (record { member = i; index = b; event = Cast (message_of e); stands = cast; named = refl; timed = refl }) x (suc t) (omega arith)).0 (omega arith) in
          let (j, f, upto, stands, called) = stands_up_to (erased (stamped_lists setting s)) regular i b (without_time (Cast (message_of e))) (get_map without_time (stamped_lists setting s i) b (Cast (message_of e)) cast)
          (record { sender = x; number = suc t }) reaches in
          let most : suc t ≤ count x (erased (stamped_lists setting s) i) =
          (number_of_had (erased (stamped_lists setting s)) regular.sound i (record { sender = x; number = suc t }) (record { index = j; event = f; stands = stands; named = called })).1 in
          omega (arith, counted setting s inv i x, is, most)

  event_message : (b : Bool) (m : Message) → message_of (cond b (Cast m) (Deliver m)) ≡ m
  event_message true m = refl
  event_message Bool.false m = refl

  -- from the times of delivered messages
  counts : greatest_of (counted_by (casts_in (facts_at now x)) (view setting.group.size (facts_at now x)) i x) ≤ delivered (seat_at setting i) (facts_at s i) x
  counts =
      all_at_most (λ m. eqb m.sender i) (λ m. expanded_field (casts_in (facts_at now x)) m.sender m.number x) (delivered (seat_at setting i) (facts_at s i) x) (view setting.group.size (facts_at now x)) (λ m there of_i.
      let (a, at) = index_of (view setting.group.size (facts_at now x)) m there in
      let e : Event = event_in (seat_at setting x) (casts_in (facts_at now x)) m in
      let stands : slice_get (stamped_lists setting now x) a ≡ Some (event_in (seat_at setting x) (casts_in (facts_at now x)) m) =
      get_map (event_in (seat_at setting x) (casts_in (facts_at now x))) (view setting.group.size (facts_at now x)) a m at in
      let is : message_of (event_in (seat_at setting x) (casts_in (facts_at now x)) m) ≡ message_in setting.group.size (casts_in (facts_at now x)) m =
      event_message (eqb m.sender x) (message_in setting.group.size (casts_in (facts_at now x)) m) in
      let most : field (message_of (event_in (seat_at setting x) (casts_in (facts_at now x)) m)).time x ≤ delivered (seat_at setting i) (facts_at s i) x =
      time_counts a (event_in (seat_at setting x) (casts_in (facts_at now x)) m) stands (ap (λ (y : Message). y.name.sender) is ∙ eqb-true m.sender i of_i) in
      let fields : field (message_of (event_in (seat_at setting x) (casts_in (facts_at now x)) m)).time x ≡ expanded_field (casts_in (facts_at now x)) m.sender m.number x =
      ap (λ (y : Message). field y.time x) is ∙ in_field setting.group.size (expanded_field (casts_in (facts_at now x)) m.sender m.number) x lt_x in
      omega arith)

  pub stays_within : delivered (seat_at setting x) (facts_at now x) x ≤ delivered (seat_at setting i) (facts_at s i) x + setting.group.window
  stays_within =
      let near = own_casts_are_near_stable (seat_at setting x) (facts_at now x) (inv_now.together.legal x lt_x) in
      let of_me : stable_of (seat_at setting x) (facts_at now x) x ≡ stable (seat_at setting x) (facts_at now x) = stable_of_me (seat_at setting x) (facts_at now x) in
      let least : stable_of (seat_at setting x) (facts_at now x) x ≤ acknowledged_by (seat_at setting x) (facts_at now x) i x =
      least_at_most (λ l. acknowledged_by (seat_at setting x) (facts_at now x) l x) (others_of setting.group.size x) i (other_in setting.group.size x i lt_i (λ same. other (sym same))) in
      let of_i : acknowledged_by (seat_at setting x) (facts_at now x) i x ≤ delivered (seat_at setting i) (facts_at s i) x =
      cond_both (eqb i x) (delivered (seat_at setting x) (facts_at now x) x) (acknowledged_of (seat_at setting x) (facts_at now x) i x) (λ (n : ℕ). n ≤ delivered (seat_at setting i) (facts_at s i) x)
      (λ same. absurd (other (sym (eqb-true i x same))))
      (λ _.
      let parts = greatest_append (flat_map (reported_by i x) (facts_at now x)) (counted_by (casts_in (facts_at now x)) (view setting.group.size (facts_at now x)) i x) in
      omega (arith, parts, reported (facts_at now x) statuses, counts)) in
      omega arith

pub who_hears_nothing_more_stays_within : WhoHearsNothingMoreStaysWithin
who_hears_nothing_more_stays_within g steps more x i endable lt_x lt_i other hears =
    let so : SuccessionSo g (succession the_rules g steps) = successions_are_so g endable steps in
    let so_now : SuccessionSo g (succession the_rules g (steps ++ more)) = successions_are_so g endable (steps ++ more) in
    let (sched, is) = steps_from g (succession the_rules g steps) more in
    let group_is : (succession the_rules g (steps ++ more)).group ≡ run_from g.setting (succession the_rules g steps).group sched =
    ap (λ (t : SuccessionState). t.group) (succession_joins g nobody_yet steps more) ∙ is in
    let (rest, goes_on) = events_go_on g.setting endable.is_setting (succession the_rules g steps).group so.consistent sched i in
    stays_within g.setting (succession the_rules g steps).group (succession the_rules g (steps ++ more)).group so.consistent so_now.consistent x i lt_x lt_i other
    (rest, ap (λ (s : GroupState). stamped_lists g.setting s i) group_is ∙ goes_on)
    (λ n status at same.
    let (frame, sent, read) = hears.statuses n status at same in
    let reported = sent_statuses_are_so g.setting (succession the_rules g steps).group so.consistent frame status sent read in
    let value : value_in status.values x ≤ delivered (seat_at g.setting status.sender) (facts_at (succession the_rules g steps).group status.sender) x =
    value_below (λ k. delivered (seat_at g.setting status.sender) (facts_at (succession the_rules g steps).group status.sender) k) status.values x reported.reached in
    subst (λ (k : ℕ). value_in status.values x ≤ delivered (seat_at g.setting k) (facts_at (succession the_rules g steps).group k) x) same value)
    hears.casts
