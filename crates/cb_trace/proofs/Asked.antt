-- Which message was before which: read off the times of the casts.
use Rattle.std.proofs.Common.{◌≡◌, ℕ, ◌<◌, ◌≤◌, Bool, true, false, eqb, List, [], length, Option, Some, None, refl, sym, ap, subst, ◌∙◌, arith}
use Rattle.std.specs.Prelude.{slice_get, MatchOption}
use Rattle.std.specs.Bool.{Decides}
use Rattle.std.specs.List.{range_with_len}
use Rattle.std.proofs.lemmas.Bool.{eqb-true}
use Rattle.std.proofs.lemmas.List.{length-map}
use Rattle.std.proofs.lemmas.List.FromFn.{length-range_with_len}
use Rattle.cb_times.specs.Order.{field, Compares}
use Rattle.cb_times.specs.declared.name.Name.{Name}
use Rattle.cb_times.specs.declared.order.TimeOrder.{TimeOrder}
use Rattle.cb_times.specs.declared.order.TimeOrder.TheVariants.{Before, After, Same, Concurrent}
use Rattle.cb_frames.specs.Fields.{Carried}
use Rattle.cb_delay.specs.declared.message.Message.{Message}
use Rattle.cb_delay.specs.declared.message.Event.{Event}
use Rattle.cb_delay.specs.declared.message.Event.TheVariants.{Cast, Deliver}
use Rattle.cb_diffs.specs.Sent.{sent_field}
use Rattle.cb_causality.specs.declared.event.CausalEvent.TheVariants as causal
use Rattle.cb_causality.specs.HappenedBefore.{HappenedBefore}
use Rattle.cb_causality.specs.StampedMachine.{without_time}
use Rattle.cb_causality.proofs.Counting.{get_map, get_map_from}
use Rattle.cb_history.specs.Group.{Identity}
use Rattle.cb_history.specs.Facts.{Fact, facts_of, casts_in}
use Rattle.cb_history.specs.View.{view, message_in}
use Rattle.cb_history.specs.Events.{event_in, events}
use Rattle.cb_schedules.specs.Schedule.{Setting, IsSetting, seat_at, GroupState}
use Rattle.cb_schedules.specs.Messages.{facts_at, stamped_lists, causal_lists, WasCast, sent_casts, time_from_bytes}
use Rattle.cb_schedules.specs.Consistent.{IsConsistent}
use Rattle.cb_schedules.proofs.Headlines.{headline_holds, times_from_bytes}
use Rattle.cb_schedules.proofs.Courses.{runs_are_consistent}
use Rattle.cb_world.specs.World.{WorldState, run_in}
use Rattle.cb_trace.specs.Asking.{HasCastOf, HasNoCastOf, IsCastAtTime}

-- ---- casts are of the member itself

cast_of_itself : (seat : Identity) (facts : List Fact) (m : Carried) (message : Message) (b : Bool) → eqb m.sender seat.me ≡ b → event_in seat (casts_in facts) m ≡ Cast message → message.name.sender ≡ seat.me
cast_of_itself seat facts m message true own is =
    let cast : Cast (message_in seat.group.size (casts_in facts) m) ≡ Cast message = sym (rw own refl) ∙ is in
    let same : message_in seat.group.size (casts_in facts) m ≡ message = cc in
    sym (ap (λ (x : Message). x.name.sender) same) ∙ eqb-true m.sender seat.me own
cast_of_itself seat facts m message false other is =
    let deliver : Deliver (message_in seat.group.size (casts_in facts) m) ≡ Cast message = sym (rw other refl) ∙ is in
    absurd cc

own_casts_alone : (seat : Identity) (facts : List Fact) (index : ℕ) (message : Message) → slice_get (events seat facts) index ≡ Some (Cast message) → message.name.sender ≡ seat.me
own_casts_alone seat facts index message at =
    let (m, stands, is) = get_map_from (event_in seat (casts_in facts)) (view seat.group.size facts) index (Cast message) at in
    cast_of_itself seat facts m message (eqb m.sender seat.me) refl is

cast_with_time : (event : Event) (name : Name) (payload : List ℕ) → without_time event ≡ causal.Cast name payload → (message : Message) × (event ≡ Cast message) × (message.name ≡ name)
cast_with_time (Cast message) name payload e = (message, refl, cc)
cast_with_time (Deliver message) name payload e = absurd cc

no_events : (seat : Identity) → events seat [] ≡ []
unfolding view
no_events seat = refl

module _ (setting : Setting) (s : GroupState) (inv : IsConsistent setting s) where
  -- where a message was cast, its sender's events have the cast
  cast_stands : (name : Name) → WasCast setting s name → (index : ℕ) × (message : Message) × (slice_get (stamped_lists setting s name.sender) index ≡ Some (Cast message)) × (message.name ≡ name)
  cast_stands name cast =
      let place = cast.0 in
      let (event, stands, is) = get_map_from without_time (stamped_lists setting s place.member) place.index (causal.Cast name cast.1.payload) cast.1.stands in
      let (message, event_is, named) = cast_with_time event name cast.1.payload is in
      let at : slice_get (stamped_lists setting s place.member) place.index ≡ Some (Cast message) = stands ∙ ap Some event_is in
      let own : name.sender ≡ place.member = ap (λ (n : Name). n.sender) (sym named) ∙ own_casts_alone (seat_at setting place.member) (facts_at s place.member) place.index message at in
      (place.index, message, subst (λ (k : ℕ). slice_get (stamped_lists setting s k) place.index ≡ Some (Cast message)) (sym own) at, named)

  pub not_cast : (name : Name) → HasNoCastOf (stamped_lists setting s name.sender) name → ¬ WasCast setting s name
  not_cast name none cast = let (index, message, at, named) = cast_stands name cast in none index message at named

  pub by_nobody : (name : Name) → setting.group.size ≤ name.sender → ¬ WasCast setting s name
  by_nobody name beyond = not_cast name (λ index message at.
      let none : stamped_lists setting s name.sender ≡ [] = ap (events (seat_at setting name.sender)) (ap facts_of (inv.nobody name.sender beyond)) ∙ no_events (seat_at setting name.sender) in
      let nothing : Some (Cast message) ≡ None = sym at ∙ ap (λ (es : List Event). slice_get es index) none in
      absurd cc)

  pub cast_at_time : (name : Name) (time : List ℕ) → HasCastOf (stamped_lists setting s name.sender) name time → IsCastAtTime setting s name time
  cast_at_time name time has = record {
    cast = (
      record { member = name.sender; index = has.index },
      record {
        payload = has.message.payload;
        stands = get_map without_time (stamped_lists setting s name.sender) has.index (Cast has.message) has.stands ∙ ap (λ (n : Name). Some (causal.Cast n has.message.payload)) has.named;
      },
    );
    time_is = is;
    fields =
        ap length is
        ∙ length-map (range_with_len 0 setting.group.size) (sent_field (sent_casts s) name.sender name.number)
        ∙ length-range_with_len 0 setting.group.size;
  }
    where
      is : time ≡ time_from_bytes setting s name
      is = sym has.time_is ∙ times_from_bytes setting s inv name.sender has.index (Cast has.message) has.stands ∙ ap (time_from_bytes setting s) has.named

  -- the times tell which was before
  pub reported_before : (a b : Name) (first second : List ℕ) (order : TimeOrder) → IsCastAtTime setting s a first → IsCastAtTime setting s b second → Compares (field first) (field second) order
      → (order ≡ Before → HappenedBefore (causal_lists setting s) a b) × (HappenedBefore (causal_lists setting s) a b → Compares (field first) (field second) Before)
  reported_before a b first second order is_a is_b compared =
      let tells = (headline_holds setting s inv).times a b is_a.cast is_b.cast Before in
      let C : List ℕ → List ℕ → Type 0 = λ x y. Compares (field x) (field y) Before in (
        (λ before. tells.0 (subst (λ (x : List ℕ). Compares (field x) (field (time_from_bytes setting s b)) Before) is_a.time_is
            (subst (λ (y : List ℕ). Compares (field first) (field y) Before) is_b.time_is (subst (Compares (field first) (field second)) before compared)))),
        (λ before. subst (λ (x : List ℕ). Compares (field x) (field second) Before) (sym is_a.time_is)
            (subst (λ (y : List ℕ). Compares (field (time_from_bytes setting s a)) (field y) Before) (sym is_b.time_is) (tells.1 before))),
      )

-- ---- answers

only_before : (f g : ℕ → ℕ) (order : TimeOrder) → Compares f g order → Compares f g Before → order ≡ Before
only_before f g Before compared less = refl
only_before f g After compared less = let k = less.1.0 in let below : f k < g k = less.1.1 in let most = compared.0 k in absurd (omega (arith, below, most))
only_before f g Same compared less = let k = less.1.0 in let below : f k < g k = less.1.1 in let same = compared k in absurd (omega (arith, below, same))
only_before f g Concurrent compared less = absurd (compared.0 less.0)

module _ (w : WorldState) (setting_is : IsSetting w.setting) where
  inv_of : IsConsistent w.setting (run_in w)
  inv_of = runs_are_consistent w.setting w.steps setting_is

  pub time_found : {T : Type 0} (value : T → List ℕ) (name : Name) (events : List Event) (o : Option T) → events ≡ stamped_lists w.setting (run_in w) name.sender
      → MatchOption o (HasNoCastOf events name) (λ t. HasCastOf events name (value t)) → MatchOption o (¬ WasCast w.setting (run_in w) name) (λ t. IsCastAtTime w.setting (run_in w) name (value t))
  time_found value name events None are none = not_cast w.setting (run_in w) inv_of name (subst (λ (es : List Event). HasNoCastOf es name) are none)
  time_found value name events (Some t) are has = cast_at_time w.setting (run_in w) inv_of name (value t) (subst (λ (es : List Event). HasCastOf es name (value t)) are has)

  pub nobody_cast : (name : Name) → w.setting.group.size ≤ name.sender → ¬ WasCast w.setting (run_in w) name
  nobody_cast name beyond = by_nobody w.setting (run_in w) inv_of name beyond

  pub before_decided : (a b : Name) (first second : List ℕ) (order : TimeOrder) (answer : Bool) → IsCastAtTime w.setting (run_in w) a first → IsCastAtTime w.setting (run_in w) b second
      → Compares (field first) (field second) order → Decides answer (order ≡ Before) → Decides answer (HappenedBefore (causal_lists w.setting (run_in w)) a b)
  before_decided a b first second order answer is_a is_b compared decides =
      let reported = reported_before w.setting (run_in w) inv_of a b first second order is_a is_b compared in (
        (λ yes. reported.0 (decides.0 yes)),
        (λ before. decides.1 (only_before (field first) (field second) order compared (reported.1 before))),
      )
