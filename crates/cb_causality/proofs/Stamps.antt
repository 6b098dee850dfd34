-- A stamped run without its times is a run of the causal machine, and its times are the clocks of its casts.
use Rattle.std.specs.Prelude.{slice_get}
use Rattle.std.proofs.Common.{◌≡◌, ℕ, ◌+◌, ◌<◌, ◌≤◌, inl, inr, List, [], length, Some, refl, sym, ◌∙◌, ap, subst, arith, ap₂}
use Rattle.std.proofs.lemmas.List.{map_push}
use Rattle.cb_times.specs.Order.{field}
use Rattle.cb_delay.specs.Rule.{IsReady}
use Rattle.cb_times.specs.declared.name.Name.{Name}
use Rattle.cb_causality.specs.declared.event.CausalEvent.{CausalEvent}
use Rattle.cb_causality.specs.declared.event.CausalEvent.TheVariants.{Cast, Deliver}
use Rattle.cb_delay.specs.declared.message.Message.{Message}
use Rattle.cb_delay.specs.declared.message.Event.{Event}
use Rattle.cb_delay.specs.declared.message.Event.TheVariants as stamped
use Rattle.cb_causality.specs.Events.{name_of, count, next_name}
use Rattle.cb_causality.specs.HappenedBefore.{Lists, Place, IsCastAt}
use Rattle.cb_causality.specs.CausalMachine.{MayDeliver, Casts, Delivers, Run, Start, Then}
use Rattle.cb_causality.specs.StampedMachine.{StampedLists, counts_of, without_time, without_times, erased, next_message, IsTimeOfList, StampedStep, StampedRun, IsTimeOf, DelayRuleAllows}
use Rattle.cb_delay.specs.Message.{message_of}
use Rattle.cb_causality.specs.Laws.{IsInOrder, TimesTellOrder, TimesCountThePast, TimesHaveSize, DelayRuleIsExact}
use Rattle.cb_causality.proofs.Counting.{get_map, get_map_from}
use Rattle.cb_causality.proofs.Places.{old_or_new, new_stands, cast_stays, is_place}
use Rattle.cb_causality.proofs.Names.{cast_once}
use Rattle.cb_causality.proofs.Clock.{clock, ready_may_deliver, may_deliver_is_ready}
use Rattle.cb_causality.proofs.Runs.{IsRegular, run_regular, regular_irreflexive, clock_stays, clock_whole}
use Rattle.cb_causality.proofs.Comparing.{IsClockOf, compares, counts_past, sound_in_order}
use Rattle.cb_causality.specs.Lists.{Appends}

-- leaving out the times commutes with appending an event
pub erased_appends : (before after : StampedLists) (i : ℕ) (s : Event) → Appends before after i s → Appends (erased before) (erased after) i (without_time s)
erased_appends before after i s app = record {
  own = ap without_times app.own ∙ map_push without_time (before i) s;
  others = λ k other. ap without_times (app.others k other);
}

-- how the lists of a stamped run stand
pub record IsStamped (size : ℕ) (lists : StampedLists) : Type 0 where
  pub causal : Run size (erased lists)
  pub times : (j a : ℕ) (s : Event) → slice_get (lists j) a ≡ Some s → IsClockOf (erased lists) (name_of (without_time s)) (message_of s).time

-- the clock of a cast stays when an event is appended
clock_kept : (before after : Lists) (i : ℕ) (x : CausalEvent) → Appends before after i x → (m : Name) (time : List ℕ) → IsClockOf before m time → IsClockOf after m time
clock_kept before after i x app m time c = record {
  place = c.place;
  cast = cast_stays before after i x app c.place m c.cast;
  same = λ k. c.same k ∙ sym (clock_stays before after i x app c.place k (is_place before c.place (Cast m c.cast.payload) c.cast.stands));
}

-- the times stay so, if that of the new event is so
times_kept : (before after : StampedLists) (i : ℕ) (s : Event) → Appends before after i s
    → ((j a : ℕ) (x : Event) → slice_get (before j) a ≡ Some x → IsClockOf (erased before) (name_of (without_time x)) (message_of x).time)
    → IsClockOf (erased after) (name_of (without_time s)) (message_of s).time
    → (j a : ℕ) (x : Event) → slice_get (after j) a ≡ Some x → IsClockOf (erased after) (name_of (without_time x)) (message_of x).time
times_kept before after i s app times new j a x stands =
    elim (old_or_new before after i s app j a x stands) [
      | inl old ↦ clock_kept (erased before) (erased after) i (without_time s) (erased_appends before after i s app) (name_of (without_time x)) (message_of x).time (times j a x old)
      | inr here ↦ subst (λ (y : Event). IsClockOf (erased after) (name_of (without_time y)) (message_of y).time) (sym here.2) new
    ]

-- a cast keeps the times so
casts_stamped : (size : ℕ) (before after : StampedLists) → IsStamped size before → (i : ℕ) (payload time : List ℕ) → i < size
    → Appends before after i (stamped.Cast (next_message i (before i) time payload))
    → IsTimeOfList size time (after i) → IsStamped size after
casts_stamped size before after is i payload time in_group app stamp = record {
  causal = Then (erased before) (erased after) is.causal (Casts i payload in_group plain);
  times = times_kept before after i (stamped.Cast (next_message i (before i) time payload)) app is.times clock_of_new;
}
  where
    plain : Appends (erased before) (erased after) i (Cast (next_name i (without_times (before i))) payload)
    plain = erased_appends before after i (stamped.Cast (next_message i (before i) time payload)) app

    clock_of_new : IsClockOf (erased after) (next_name i (without_times (before i))) time
    clock_of_new = record {
      place = record { member = i; index = length (without_times (before i)) };
      cast = record { payload = payload; stands = new_stands (erased before) (erased after) i (Cast (next_name i (without_times (before i))) payload) plain };
      same = λ k. stamp.counts k ∙ sym (clock_whole (erased before) (erased after) i (Cast (next_name i (without_times (before i))) payload) plain k);
    }

-- What the delay rule allows may be delivered.
module _ (size : ℕ) (lists : StampedLists) (is : IsStamped size lists) (j : ℕ) (message : Message) (may : DelayRuleAllows lists j message) where
  -- the lists without their times stand as those of a run do
  reg : IsRegular (erased lists)
  reg = run_regular size (erased lists) is.causal

  -- the cast that the rule looked at
  cast : IsCastAt (erased lists) (record { member = may.caster; index = may.index }) message.name
  cast = record {
    payload = message.payload;
    stands = get_map without_time (lists may.caster) may.index (stamped.Cast message) may.stands;
  }

  -- its time is its clock
  clock_of_m : IsClockOf (erased lists) message.name message.time
  clock_of_m = is.times may.caster may.index (stamped.Cast message) may.stands

  -- it stands in the list of its sender
  sender : message.name.sender ≡ may.caster
  sender = reg.sound.casters (record { member = may.caster; index = may.index }) message.name cast

  -- field by field
  fields : (k : ℕ) → field message.time k ≡ clock (erased lists) (record { member = may.caster; index = may.index }) k
  fields k =
      let place : Place = record { member = may.caster; index = may.index } in
      let one : clock_of_m.place ≡ place = cast_once (erased lists) reg.sound clock_of_m.place place message.name clock_of_m.cast cast in
      clock_of_m.same k ∙ ap (λ (p : Place). clock (erased lists) p k) one

  -- so the rule holds at the clock
  ready_at_clock : IsReady message.name.sender (clock (erased lists) (record { member = may.caster; index = may.index })) (λ k. count k (erased lists j))
  ready_at_clock =
      let place : Place = record { member = may.caster; index = may.index } in
      record {
        next =
            let next : clock (erased lists) place may.caster ≡ count may.caster (erased lists j) + 1 = sym (fields may.caster) ∙ may.ready.next in
            subst (λ (k : ℕ). clock (erased lists) place k ≡ count k (erased lists j) + 1) (sym sender) next;
        others = λ k other.
            let less : field message.time k ≤ count k (erased lists j) = may.ready.others k (λ e. other (e ∙ sym sender)) in
            omega (arith, fields k);
      }

  -- and the message may be delivered
  pub allowed_may_deliver : MayDeliver (erased lists) j message.name message.payload
  unfolding cast
  allowed_may_deliver =
      ready_may_deliver (erased lists) reg.sound reg.closed (regular_irreflexive (erased lists) reg) (record { member = may.caster; index = may.index }) j message.name
      cast (λ e. may.another (sym sender ∙ e)) ready_at_clock

  -- with the time that it was cast with
  pub allowed_clock : IsClockOf (erased lists) message.name message.time
  allowed_clock = clock_of_m

-- an event that is a cast without its time is that cast with its time
cast_from : (s : Event) (m : Name) (payload : List ℕ) → without_time s ≡ Cast m payload
    → s ≡ stamped.Cast (record { name = m; time = (message_of s).time; payload = payload })
cast_from (stamped.Cast message) m payload e =
    let named : message.name ≡ m = cc e in
    let says : message.payload ≡ payload = cc e in
    let make : Name → List ℕ → Event = λ n p. stamped.Cast (record { name = n; time = message.time; payload = p }) in
    ap₂ make named says
cast_from (stamped.Deliver message) m payload e = absurd (cc e)

-- What may be delivered, the delay rule allows.
module _ (size : ℕ) (lists : StampedLists) (is : IsStamped size lists) (j : ℕ) (m : Name) (payload : List ℕ) (may : MayDeliver (erased lists) j m payload) where
  -- the time that stands with its cast is ready
  with_stamp : (s : Event) → slice_get (lists may.caster) may.index ≡ Some s → without_time s ≡ Cast m payload
      → DelayRuleAllows lists j (record { name = m; time = (message_of s).time; payload = payload })
  with_stamp s at is_cast = record {
    caster = may.caster;
    index = may.index;
    another = may.another;
    stands = at ∙ ap (λ (x : Event). Some x) (cast_from s m payload is_cast);
    ready = ready;
  }
    where
      place : Place
      place = record { member = may.caster; index = may.index }

      cast_there : IsCastAt (erased lists) place m
      cast_there = record { payload = payload; stands = may.stands }

      regular : IsRegular (erased lists)
      regular = run_regular size (erased lists) is.causal

      clock_there : IsClockOf (erased lists) m (message_of s).time
      clock_there = subst (λ (e : CausalEvent). IsClockOf (erased lists) (name_of e) (message_of s).time) is_cast (is.times may.caster may.index s at)

      same_fields : (k : ℕ) → field (message_of s).time k ≡ clock (erased lists) place k
      same_fields k =
          let one : clock_there.place ≡ place = cast_once (erased lists) regular.sound clock_there.place place m clock_there.cast cast_there in
          clock_there.same k ∙ ap (λ (p : Place). clock (erased lists) p k) one

      sender_there : m.sender ≡ may.caster
      sender_there = regular.sound.casters place m cast_there

      at_clock : IsReady m.sender (clock (erased lists) place) (λ k. count k (erased lists j))
      at_clock = may_deliver_is_ready (erased lists) regular.sound place j m payload cast_there may

      ready : IsReady may.caster (field (message_of s).time) (counts_of (lists j))
      ready = record {
        next =
            let next : field (message_of s).time m.sender ≡ count m.sender (erased lists j) + 1 = same_fields m.sender ∙ at_clock.next in
            subst (λ (k : ℕ). field (message_of s).time k ≡ count k (erased lists j) + 1) sender_there next;
        others = λ k other.
            let less : clock (erased lists) place k ≤ count k (erased lists j) = at_clock.others k (λ e. other (e ∙ sender_there)) in
            omega (arith, same_fields k);
      }

  -- so the rule allows it
  pub may_deliver_is_allowed : (time : List ℕ) × DelayRuleAllows lists j (record { name = m; time = time; payload = payload })
  may_deliver_is_allowed =
      let (s, at, is_cast) = get_map_from without_time (lists may.caster) may.index (Cast m payload) may.stands in
      ((message_of s).time, with_stamp s at is_cast)

-- a delivery keeps the times so
delivers_stamped : (size : ℕ) (before after : StampedLists) → IsStamped size before → (j : ℕ) (message : Message) → j < size
    → DelayRuleAllows before j message → Appends before after j (stamped.Deliver message) → IsStamped size after
delivers_stamped size before after is j message in_group may app = record {
  causal = Then (erased before) (erased after) is.causal
      (Delivers j message.name message.payload in_group (allowed_may_deliver size before is j message may) plain);
  times = times_kept before after j (stamped.Deliver message) app is.times
      (clock_kept (erased before) (erased after) j (Deliver message.name message.payload) plain message.name message.time
      (allowed_clock size before is j message may));
}
  where
    plain : Appends (erased before) (erased after) j (Deliver message.name message.payload)
    plain = erased_appends before after j (stamped.Deliver message) app

-- and so does each step
pub step_stamped : (size : ℕ) (before after : StampedLists) → IsStamped size before → StampedStep size before after → IsStamped size after
step_stamped size before after is (StampedStep.Casts i payload in_group casts) =
    casts_stamped size before after is i payload casts.time in_group casts.appends casts.stamp
step_stamped size before after is (StampedStep.Delivers j message in_group may app) =
    delivers_stamped size before after is j message in_group may app

-- and each run
pub run_stamped : (size : ℕ) (lists : StampedLists) → StampedRun size lists → IsStamped size lists
run_stamped size lists (StampedRun.Start _ empty) = record {
  causal = Start (erased lists) (λ k. ap without_times (empty k));
  times = λ j a s stands.
      let none : slice_get [] a ≡ Some s = subst (λ (xs : List Event). slice_get xs a ≡ Some s) (empty j) stands in
      absurd (cc none);
}
run_stamped size lists (StampedRun.Then before _ earlier next) = step_stamped size before lists (run_stamped size before earlier) next

-- each time of a run has a field for each member of the group
run_sizes : (size : ℕ) (lists : StampedLists) → StampedRun size lists → (j a : ℕ) (s : Event) → slice_get (lists j) a ≡ Some s
    → length (message_of s).time ≡ size
run_sizes size lists (StampedRun.Start _ empty) j a s stands =
    let none : slice_get [] a ≡ Some s = subst (λ (xs : List Event). slice_get xs a ≡ Some s) (empty j) stands in
    absurd (cc none)
run_sizes size lists (StampedRun.Then before _ earlier (StampedStep.Casts i payload inside casts)) j a s stands =
    elim (old_or_new before lists i (stamped.Cast (next_message i (before i) casts.time payload)) casts.appends j a s stands) [
      | inl old ↦ run_sizes size before earlier j a s old
      | inr new ↦ rw new.2 casts.stamp.fields
    ]
run_sizes size lists (StampedRun.Then before _ earlier (StampedStep.Delivers k message inside may app)) j a s stands =
    let fields : length message.time ≡ size = run_sizes size before earlier may.caster may.index (stamped.Cast message) may.stands in
    elim (old_or_new before lists k (stamped.Deliver message) app j a s stands) [
      | inl old ↦ run_sizes size before earlier j a s old
      | inr new ↦ rw new.2 fields
    ]

-- whatever the time stands with
pub times_have_size : (size : ℕ) (lists : StampedLists) → StampedRun size lists → TimesHaveSize size lists
times_have_size size lists r m time t = ap length (sym t.timed) ∙ run_sizes size lists r t.member t.index t.event t.stands

-- without its times a stamped run is a run of the causal machine
pub stamped_is_causal : (size : ℕ) (lists : StampedLists) → StampedRun size lists → Run size (erased lists)
stamped_is_causal size lists r = (run_stamped size lists r).causal

-- an event has one name, with its time and without
pub name_stays : (s : Event) → name_of (without_time s) ≡ (message_of s).name
name_stays (stamped.Cast message) = refl
name_stays (stamped.Deliver message) = refl

-- the time that stands with a message is the clock of its cast
pub time_is_clock : (size : ℕ) (lists : StampedLists) → StampedRun size lists → (m : Name) (time : List ℕ) → IsTimeOf lists m time → IsClockOf (erased lists) m time
time_is_clock size lists r m time t =
    subst (λ (x : Name). IsClockOf (erased lists) x time) (name_stays t.event ∙ t.named)
    (subst (λ (x : List ℕ). IsClockOf (erased lists) (name_of (without_time t.event)) x) t.timed
    ((run_stamped size lists r).times t.member t.index t.event t.stands))

-- the times of any two messages compare exactly as the messages do
pub times_tell_order : (size : ℕ) (lists : StampedLists) → StampedRun size lists → TimesTellOrder lists
times_tell_order size lists r a b time_a time_b of_a of_b order =
    compares (erased lists) (run_regular size (erased lists) (stamped_is_causal size lists r)) a b time_a time_b
    (time_is_clock size lists r a time_a of_a) (time_is_clock size lists r b time_b of_b) order

-- the fundamental law
pub times_count_the_past : (size : ℕ) (lists : StampedLists) → StampedRun size lists → TimesCountThePast lists
times_count_the_past size lists r m time of_m k t one =
    counts_past (erased lists) (run_regular size (erased lists) (stamped_is_causal size lists r)) m time (time_is_clock size lists r m time of_m) k t one

-- the messages of each sender stand in order
pub run_in_order : (size : ℕ) (lists : Lists) → Run size lists → IsInOrder lists
run_in_order size lists r = sound_in_order lists (run_regular size lists r).sound

-- the delay rule allows exactly what may be delivered
pub delay_rule_is_exact : (size : ℕ) (lists : StampedLists) → StampedRun size lists → DelayRuleIsExact lists
delay_rule_is_exact size lists r receiver m payload = (
  (λ allowed. allowed_may_deliver size lists (run_stamped size lists r) receiver (record { name = m; time = allowed.0; payload = payload }) allowed.1),
  (λ may. may_deliver_is_allowed size lists (run_stamped size lists r) receiver m payload may),
)
