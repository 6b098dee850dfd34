-- The headline, and what else is true after every schedule.
use Rattle.std.proofs.Common.{◌≡◌, ◌≢◌, ℕ, zero, suc, ◌<◌, ◌≤◌, true, ◌&&◌, ltb, [], ◌∷◌, Result, Ok, refl, sym, ap, subst, ◌∙◌, inl, inr, arith}
use Rattle.std.proofs.lemmas.Bool.{cases_eq, cases_lt, ltb-true, and_parts}
use Rattle.cb_times.specs.declared.name.Name.{Name}
use Rattle.cb_frames.specs.declared.fault.FrameFault.{FrameFault}
use Rattle.cb_frames.specs.Fields.{CastFields, FrameFields, CastFrame, StatusFrame, RequestFrame, HelpFrame, Carried}
use Rattle.cb_frames.specs.Text.{text_of}
use Rattle.cb_history.specs.Read.{frame_read}
use Rattle.cb_causality.specs.declared.event.CausalEvent.TheVariants as causal
use Rattle.cb_causality.specs.StampedMachine.{without_time, counts_of, IsTimeOf}
use Rattle.cb_delay.specs.Message.{message_of}
use Rattle.cb_causality.proofs.Counting.{get_map}
use Rattle.cb_causality.proofs.Stamps.{stamped_is_causal, times_tell_order, name_stays}
use Rattle.cb_causality.proofs.Extending.{extension_erases}
use Rattle.cb_causality.proofs.OneMessage.{one_name_one_message}
use Rattle.cb_history.specs.Facts.{casts_in, messages_in}
use Rattle.cb_history.specs.View.{view, is_among, is_expanded, expanded_in}
use Rattle.cb_history.specs.Known.{stable_of}
use Rattle.cb_history.specs.Answers.{delivered, own_casts, answer_to, arrive_answer}
use Rattle.cb_history.specs.Legal.{Call, ToCast, ToTake, ToTick, ToHelp}
use Rattle.cb_history.specs.OwnFrameLaws.{IsOfTheGroup}
use Rattle.cb_history.proofs.Views.{filter_in}
use Rattle.cb_history.proofs.EverySender.{stable_of_me}
use Rattle.cb_history.proofs.Names.{one_of_is_in}
use Rattle.cb_history.proofs.Buffers.{cast_of_is_in, in_is_cast_of}
use Rattle.cb_schedules.specs.Schedule.{Setting, IsSetting, seat_at, Step, Schedule, SentFrame, Asked, answer_of, GroupState, after_asked, step_after, nothing_yet, run_from, run}
use Rattle.cb_schedules.specs.Messages.{facts_at, stamped_lists, WasCast, HasDelivered, time_from_bytes}
use Rattle.cb_schedules.specs.Honest.{member_of, SaysWhatIsSo, IsHonest}
use Rattle.cb_schedules.specs.Consistent.{IsConsistent}
use Rattle.cb_schedules.specs.SentLaws.{WasSent, SentCastsAreOwn, OneNameSameBytes, SentStatusesAreSo, NobodyAsksItself, HelpersAreThird, CastsThereAreOwn, EventsHaveTimesFromBytes, HeardOfIsCast, DeliveredIsCast, TimesTellOwnCasts, AcknowledgedOfIsDeliveredThere, AcknowledgedIsDeliveredThere, StableOfIsDeliveredEverywhere, StableOfStandsInEvents, StableIsDeliveredEverywhere, StableStandsInEvents, SendersStayNear, IsNoRefusal, IsRefusedByFullHistoryAlone, ArrivalsAreWelcome}
use Rattle.cb_schedules.specs.Headline.{IsCausalBroadcast, DeliversClosedArrivals, TimesTellHappenedBefore, Headline, EachSchedule, StepsExtendTheStamped, StepsExtendTheCausal}
use Rattle.cb_schedules.proofs.Stamping.{events_count}
use Rattle.cb_schedules.proofs.Members.{holder_inside, reported_at_most, is_own, delivered_at_most, own_of_a_number}
use Rattle.cb_schedules.proofs.Sending.{honest_text}
use Rattle.cb_schedules.proofs.Courses.{IsFair, asked_is, step_goes_on, runs_are_consistent, starts}
use Rattle.cb_schedules.proofs.Moments.{called, has_seen, seen_has, own_cast_of, has_clock, has_there}
use Rattle.cb_schedules.proofs.Closing.{seen_number, seen_is_closed, closed_is_seen}
use Rattle.cb_schedules.proofs.FromBytes.{time_is_clock}
use Rattle.cb_schedules.proofs.Knowing.{acknowledged_of_is_so, heard_is_so, stable_of_is_so, stable_is_so, near_is_so, is_welcome}
use Rattle.cb_schedules.proofs.Lists.{all_both, all_at_index}

-- a group has another member
another : (i size : ℕ) → 2 ≤ size → (k : ℕ) × (k < size) × (k ≢ i)
another zero size two = (1, omega (arith, two), λ e. absurd cc)
another (suc i) size two = (0, omega (arith, two), λ e. absurd cc)

none_seen : (size : ℕ) (m : Carried) → is_among (view size []) m ≡ true → ⊥
unfolding view
none_seen size m seen = cc

module _ (setting : Setting) (s : GroupState) (inv : IsConsistent setting s) where
  -- who has delivered something is a member
  pub member_has : (j : ℕ) (m : Name) → HasDelivered setting s j m → j < setting.group.size
  member_has j m has = elim (cases_lt j setting.group.size) [
    | inl lt ↦ lt
    | inr le ↦ absurd (none_seen setting.group.size (called m)
        (subst (λ fs. is_among (view setting.group.size fs) (called m) ≡ true) (inv.together.nobody j le) (has_seen (member_of setting.group j) (facts_at s j) m has)))
  ]

  -- a cast stands in its caster's list
  pub cast_stands : (m : Name) (c : WasCast setting s m) → HasDelivered setting s (c.0).member m
  cast_stands m c = record { index = (c.0).index; event = causal.Cast m c.1.payload; stands = c.1.stands; named = refl }

  pub numbered : (j : ℕ) (m : Name) → HasDelivered setting s j m → 1 ≤ m.number
  numbered j m has = (seen_number setting.group (facts_at s) inv.together j m (member_has j m has) (has_seen (member_of setting.group j) (facts_at s j) m has)).0

  -- ---- the claims

  causal_broadcast : IsCausalBroadcast setting s
  causal_broadcast = stamped_is_causal setting.group.size (stamped_lists setting s) inv.together.stamped

  delivers_closed : DeliversClosedArrivals setting s
  delivers_closed j m = (
    (λ has.
        let closed = seen_is_closed setting.group (facts_at s) inv.together j m (member_has j m has)
        (λ earlier before. numbered before.from.member earlier (cast_stands earlier (before.from, before.cast_earlier))) (has_seen (member_of setting.group j) (facts_at s j) m has) in
        record {
          arrived = inv.arrived j m ∙ closed.here;
          past = λ earlier before. inv.arrived j earlier ∙ closed.past earlier before;
        }),
    (λ closed. seen_has (member_of setting.group j) (facts_at s j) m (closed_is_seen setting.group (facts_at s) inv.together j m (record {
      here = sym (inv.arrived j m) ∙ closed.arrived;
      past = λ earlier before. sym (inv.arrived j earlier) ∙ closed.past earlier before;
    }))),
  )

  -- the time from the bytes stands with each message that somebody has
  time_stands : (j : ℕ) (m : Name) → HasDelivered setting s j m → IsTimeOf (stamped_lists setting s) m (time_from_bytes setting s m)
  time_stands j m has =
      let there = has_there setting.group (facts_at s) inv.together j m has (member_has j m has) in
      let c = own_cast_of setting.group (facts_at s) inv.together j m there in
      subst (IsTimeOf (stamped_lists setting s) m) (sym (time_is_clock setting s inv m c.sender_member)) (has_clock setting.group (facts_at s) inv.together j m there)

  times_tell : TimesTellHappenedBefore setting s
  times_tell a b cast_a cast_b =
      times_tell_order setting.group.size (stamped_lists setting s) inv.together.stamped a b (time_from_bytes setting s a) (time_from_bytes setting s b)
      (time_stands (cast_a.0).member a (cast_stands a cast_a)) (time_stands (cast_b.0).member b (cast_stands b cast_b))

  pub headline_holds : Headline setting s
  headline_holds = record { causal = causal_broadcast; delivered = delivers_closed; times = times_tell }

  pub times_from_bytes : EventsHaveTimesFromBytes setting s
  times_from_bytes j index event at =
      let t = time_stands j (message_of event).name (record {
        index = index;
        event = without_time event;
        stands = get_map without_time (stamped_lists setting s j) index event at;
        named = name_stays event;
      }) in
      ap (λ m. m.time) (one_name_one_message setting.group.size (stamped_lists setting s) inv.together.stamped event t.event (j, index, at) (t.member, t.index, t.stands) (sym t.named)) ∙ t.timed

  -- ---- frames that were sent

  says : (frame : SentFrame) (f : FrameFields) → WasSent s frame → frame_read frame.bytes ≡ Ok f → SaysWhatIsSo setting.group (facts_at s) f × IsOfTheGroup setting.group f × (frame.bytes ≡ text_of f)
  says frame f sent read =
      let honest = all_at_index (λ (x : SentFrame). IsHonest setting.group (facts_at s) x.bytes) s.sent sent.0 frame inv.honest sent.1 in
      let both : Ok honest.frame ≡ Ok f = sym honest.read ∙ read in
      let same : honest.frame ≡ f = cc in
      (subst (SaysWhatIsSo setting.group (facts_at s)) same honest.so, subst (IsOfTheGroup setting.group) same honest.of_group, honest_text setting.group (facts_at s) frame.bytes f honest read)

  pub sent_casts_are_own : SentCastsAreOwn setting s
  sent_casts_are_own frame c sent read = let it = says frame (CastFrame c) sent read in (it.0, it.2)

  pub one_name_same_bytes : OneNameSameBytes setting s
  one_name_same_bytes frame other c d n sent sent' read read' sender holds holds' =
      let a = says frame (CastFrame c) sent read in
      let b = says other (CastFrame d) sent' read' in
      let own = cast_of_is_in c (own_casts (facts_at s c.sender)) a.0 in
      let own' = cast_of_is_in d (own_casts (facts_at s d.sender)) b.0 in
      let same : c ≡ d = own_of_a_number setting.group (facts_at s) inv.together c d n own own' sender holds.0 holds.1 holds'.0 holds'.1 in
      a.2 ∙ ap (λ (x : CastFields). text_of (CastFrame x)) same ∙ sym b.2

  pub sent_statuses_are_so : SentStatusesAreSo setting s
  sent_statuses_are_so frame t sent read = (says frame (StatusFrame t) sent read).0

  pub nobody_asks_itself : NobodyAsksItself setting s
  nobody_asks_itself frame r sent read =
      let it = says frame (RequestFrame r) sent read in
      let both = and_parts (ltb r.requester setting.group.size) (ltb r.asked setting.group.size) it.1.members in
      (ltb-true r.requester setting.group.size both.0, ltb-true r.asked setting.group.size both.1, it.0)

  pub helpers_are_third : HelpersAreThird setting s
  helpers_are_third frame h sent read =
      let it = says frame (HelpFrame h) sent read in
      let all = and_parts (ltb h.requester setting.group.size && ltb h.helper setting.group.size) (ltb h.sender setting.group.size) it.1.members in
      let both = and_parts (ltb h.requester setting.group.size) (ltb h.helper setting.group.size) all.0 in
      (ltb-true h.requester setting.group.size both.0, ltb-true h.helper setting.group.size both.1, ltb-true h.sender setting.group.size all.1, it.0.0, it.0.1, it.0.2)

  pub casts_there_are_own : CastsThereAreOwn setting s
  casts_there_are_own j c there = in_is_cast_of c (own_casts (facts_at s c.sender)) (is_own setting.group (facts_at s) inv.together j c (cast_of_is_in c (casts_in (facts_at s j)) there))

  pub acknowledged_of_is_delivered_there : AcknowledgedOfIsDeliveredThere setting s
  acknowledged_of_is_delivered_there j k i lt small = acknowledged_of_is_so setting.group (facts_at s) inv.together j k i lt small

  pub acknowledged_is_delivered_there : AcknowledgedIsDeliveredThere setting s
  acknowledged_is_delivered_there i k lt = acknowledged_of_is_delivered_there i k i lt lt

  pub stable_of_is_delivered_everywhere : StableOfIsDeliveredEverywhere setting s
  stable_of_is_delivered_everywhere j i k lt small lt_k ne = stable_of_is_so setting.group (facts_at s) inv.together j i k lt small lt_k ne

  pub stable_is_delivered_everywhere : StableIsDeliveredEverywhere setting s
  stable_is_delivered_everywhere i j lt lt_j ne = stable_is_so setting.group (facts_at s) inv.together i j lt lt_j ne

  pub senders_stay_near : SendersStayNear setting s
  senders_stay_near i j lt lt_j = near_is_so setting.group (facts_at s) inv.together i j lt lt_j

  pub heard_of_is_cast : HeardOfIsCast setting s
  heard_of_is_cast j i lt lt_i = heard_is_so setting.group (facts_at s) inv.together j i lt lt_i

  pub delivered_is_cast : DeliveredIsCast setting s
  delivered_is_cast j i lt lt_i = delivered_at_most setting.group (facts_at s) inv.together j i lt lt_i

  -- the events count what is delivered
  pub counted : (j i : ℕ) → counts_of (stamped_lists setting s j) i ≡ delivered (seat_at setting j) (facts_at s j) i
  counted j i = events_count (seat_at setting j) (casts_in (facts_at s j)) (view setting.group.size (facts_at s j)) i

  -- some other member has delivered what is stable of the casts of i, and i has cast that
  stable_of_is_cast : (j i : ℕ) → j < setting.group.size → i < setting.group.size → stable_of (seat_at setting j) (facts_at s j) i ≤ delivered (seat_at setting i) (facts_at s i) i
  stable_of_is_cast j i lt small =
      let other = another i setting.group.size (inv.legal i small).group.size.two_or_more in
      omega (arith, stable_of_is_delivered_everywhere j i other.0 lt small other.1 other.2, delivered_is_cast other.0 i other.1 small)

  pub stable_of_stands_in_events : StableOfStandsInEvents setting s
  stable_of_stands_in_events j i k lt small lt_k = elim (cases_eq k i) [
    | inl same ↦ subst (λ (l : ℕ). stable_of (seat_at setting j) (facts_at s j) i ≤ counts_of (stamped_lists setting s l) i) (sym same) (omega (arith, counted i i, stable_of_is_cast j i lt small))
    | inr other ↦ omega (arith, counted k i, stable_of_is_delivered_everywhere j i k lt small lt_k other)
  ]

  -- so of the casts of the member itself
  pub stable_stands_in_events : StableStandsInEvents setting s
  stable_stands_in_events i j lt lt_j = subst (λ (n : ℕ). n ≤ counts_of (stamped_lists setting s j) i) (stable_of_me (seat_at setting i) (facts_at s i)) (stable_of_stands_in_events i i j lt lt lt_j)

  pub times_tell_own_casts : TimesTellOwnCasts setting s
  times_tell_own_casts j m one =
      let parts = filter_in (is_expanded (casts_in (facts_at s j))) (messages_in (casts_in (facts_at s j))) m (one_of_is_in m (expanded_in (casts_in (facts_at s j))) one) in
      reported_at_most setting.group (facts_at s) inv.together j m j (holder_inside setting.group (facts_at s) inv.together j m parts.1) parts.1 parts.0

-- ---- along runs

pub call_is_welcome : (setting : Setting) (s : GroupState) → IsConsistent setting s → (i : ℕ) (call : Call) → i < setting.group.size → IsFair setting s call
    → IsRefusedByFullHistoryAlone (answer_of (seat_at setting i) setting.limit (s.histories i) call)
unfolding arrive_answer
call_is_welcome setting s inv i (ToCast load) lt fair = tt
call_is_welcome setting s inv i ToTick lt fair = tt
call_is_welcome setting s inv i (ToHelp k) lt fair = tt
call_is_welcome setting s inv i (ToTake bytes) lt fair =
    subst (λ (r : Result FrameFields FrameFault). IsNoRefusal (answer_to (seat_at setting i) setting.limit (s.histories i) r)) (sym fair.read)
    (is_welcome setting.group (facts_at s) inv.together i lt setting.limit (s.histories i) fair.frame fair.of_group fair.so)

step_is_welcome : (setting : Setting) (s : GroupState) → IsConsistent setting s → (step : Step) → ArrivalsAreWelcome setting s → ArrivalsAreWelcome setting (step_after setting s step)
unfolding step_after
step_is_welcome setting s inv step before =
    asked_is setting s inv.honest (λ (asked : Asked). ArrivalsAreWelcome setting (after_asked setting s asked))
    (λ i call lt fair. all_both (λ outcome. IsRefusedByFullHistoryAlone outcome.answer) s.outcomes (_ ∷ []) before (call_is_welcome setting s inv i call lt fair, tt))
    (all_both (λ outcome. IsRefusedByFullHistoryAlone outcome.answer) s.outcomes (_ ∷ []) before (tt, tt))
    (all_both (λ outcome. IsRefusedByFullHistoryAlone outcome.answer) s.outcomes (_ ∷ []) before (tt, tt))
    (all_both (λ outcome. IsRefusedByFullHistoryAlone outcome.answer) s.outcomes (_ ∷ []) before (tt, tt)) step

welcome_from : (setting : Setting) → IsSetting setting → (s : GroupState) → IsConsistent setting s → ArrivalsAreWelcome setting s → (steps : Schedule) → ArrivalsAreWelcome setting (run_from setting s steps)
unfolding run_from
welcome_from setting is s inv before [] = before
welcome_from setting is s inv before (step ∷ steps) =
    welcome_from setting is (step_after setting s step) (step_goes_on setting is s inv step).0 (step_is_welcome setting s inv step before) steps

pub arrivals_are_welcome : EachSchedule ArrivalsAreWelcome
arrivals_are_welcome setting steps is = welcome_from setting is nothing_yet (starts setting is) tt steps

pub steps_extend_the_stamped : StepsExtendTheStamped
steps_extend_the_stamped setting steps step is = (step_goes_on setting is (run setting steps) (runs_are_consistent setting steps is) step).1

pub steps_extend_the_causal : StepsExtendTheCausal
steps_extend_the_causal setting steps step is =
    let inv = runs_are_consistent setting steps is in
    extension_erases setting.group.size (stamped_lists setting (run setting steps)) (stamped_lists setting (step_after setting (run setting steps) step)) inv.together.stamped
    (steps_extend_the_stamped setting steps step is)

-- what follows from the invariant is so after every schedule
pub each_schedule : (P : Setting → GroupState → Type 0) → ((setting : Setting) (s : GroupState) → IsConsistent setting s → P setting s) → EachSchedule P
each_schedule P holds setting steps is = holds setting (run setting steps) (runs_are_consistent setting steps is)
