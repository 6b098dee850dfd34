-- A name tells its message: its time's own field is its number, and all events of one name are of one message.
use Rattle.std.specs.Prelude.{slice_get}
use Rattle.std.proofs.Common.{◌≡◌, ℕ, inl, inr, List, [], length, Some, refl, sym, ◌∙◌, ap, subst}
use Rattle.cb_times.specs.declared.name.Name.{Name}
use Rattle.cb_delay.specs.declared.message.Message.{Message}
use Rattle.cb_delay.specs.declared.message.Event.{Event}
use Rattle.cb_delay.specs.declared.message.Event.TheVariants as stamped
use Rattle.cb_causality.specs.declared.event.CausalEvent.{CausalEvent}
use Rattle.cb_causality.specs.Events.{name_of, payload_of}
use Rattle.cb_causality.specs.HappenedBefore.{Lists, Place, IsCastAt}
use Rattle.cb_causality.specs.CausalMachine.{Run}
use Rattle.cb_causality.specs.StampedMachine.{StampedLists, StampedRun, StampedStep, without_time, erased, next_message}
use Rattle.cb_delay.specs.Message.{message_of}
use Rattle.cb_causality.specs.Lists.{Appends, StandsIn}
use Rattle.cb_causality.specs.Laws.{OwnFieldIsNumber, OneNameOnePayload, OneNameOneMessage}
use Rattle.cb_causality.proofs.Counting.{get_map, get_map_from}
use Rattle.cb_causality.proofs.Places.{old_or_new, old_stays, new_stands}
use Rattle.cb_causality.proofs.Names.{cast_once}
use Rattle.cb_causality.proofs.Clock.{clock_own}
use Rattle.cb_causality.proofs.Runs.{IsRegular, run_regular}
use Rattle.cb_causality.proofs.Comparing.{IsClockOf}
use Rattle.cb_causality.proofs.Stamps.{stamped_is_causal, time_is_clock, name_stays}
use Rattle.cb_causality.proofs.WayBack.{causal_is_erasure}

-- the clock of a cast has its number at its own field, and so has the time
pub own_field_is_number : (size : ℕ) (lists : StampedLists) → StampedRun size lists → OwnFieldIsNumber lists
own_field_is_number size lists run m time of_m =
    let c : IsClockOf (erased lists) m time = time_is_clock size lists run m time of_m in
    let reg : IsRegular (erased lists) = run_regular size (erased lists) (stamped_is_causal size lists run) in
    c.same m.sender ∙ clock_own (erased lists) reg.sound c.place m c.cast

-- where an event was appended, what holds of the messages before holds still, if it holds of its message
still_cast : (before after : StampedLists) (i : ℕ) (x : Event) → Appends before after i x
    → ((j a : ℕ) (s : Event) → slice_get (before j) a ≡ Some s → StandsIn before (stamped.Cast (message_of s)))
    → StandsIn after (stamped.Cast (message_of x))
    → (j a : ℕ) (s : Event) → slice_get (after j) a ≡ Some s → StandsIn after (stamped.Cast (message_of s))
still_cast before after i x app were new j a s stands =
    elim (old_or_new before after i x app j a s stands) [
      | inl old ↦ let (k, index, at) = were j a s old in (k, index, old_stays before after i x app k index (stamped.Cast (message_of s)) at)
      | inr here ↦ subst (λ (y : Event). StandsIn after (stamped.Cast (message_of y))) (sym here.2) new
    ]

-- the message of each event is cast in some list
pub message_is_cast : (size : ℕ) (lists : StampedLists) → StampedRun size lists → (j a : ℕ) (s : Event) → slice_get (lists j) a ≡ Some s
    → StandsIn lists (stamped.Cast (message_of s))
message_is_cast size lists (StampedRun.Start _ empty) j a s stands =
    let none : slice_get [] a ≡ Some s = subst (λ (xs : List Event). slice_get xs a ≡ Some s) (empty j) stands in
    absurd (cc none)
message_is_cast size lists (StampedRun.Then before _ run (StampedStep.Casts i payload inside casts)) j a s stands =
    let x : Event = stamped.Cast (next_message i (before i) casts.time payload) in
    still_cast before lists i x casts.appends (message_is_cast size before run) (i, length (before i), new_stands before lists i x casts.appends) j a s stands
message_is_cast size lists (StampedRun.Then before _ run (StampedStep.Delivers k message inside may app)) j a s stands =
    still_cast before lists k (stamped.Deliver message) app (message_is_cast size before run)
    (may.caster, may.index, old_stays before lists k (stamped.Deliver message) app may.caster may.index (stamped.Cast message) may.stands) j a s stands

-- and it is cast once
pub one_name_one_message : (size : ℕ) (lists : StampedLists) → StampedRun size lists → OneNameOneMessage lists
one_name_one_message size lists run e f (j, a, at_e) (k, b, at_f) named =
    let (i, c, cast_e) = message_is_cast size lists run j a e at_e in
    let (l, d, cast_f) = message_is_cast size lists run k b f at_f in
    let of_e : IsCastAt (erased lists) (record { member = i; index = c }) (message_of e).name =
    record { payload = (message_of e).payload; stands = get_map without_time (lists i) c (stamped.Cast (message_of e)) cast_e } in
    let of_f : IsCastAt (erased lists) (record { member = l; index = d }) (message_of f).name =
    record { payload = (message_of f).payload; stands = get_map without_time (lists l) d (stamped.Cast (message_of f)) cast_f } in
    let reg : IsRegular (erased lists) = run_regular size (erased lists) (stamped_is_causal size lists run) in
    let once : ◌≡◌ {A = Place} (record { member = i; index = c }) (record { member = l; index = d }) =
    cast_once (erased lists) reg.sound (record { member = i; index = c }) (record { member = l; index = d }) (message_of e).name of_e
    (subst (λ (m : Name). IsCastAt (erased lists) (record { member = l; index = d }) m) (sym named) of_f) in
    let same : Some (stamped.Cast (message_of e)) ≡ Some (stamped.Cast (message_of f)) =
    sym cast_e ∙ ap (λ (p : Place). slice_get (lists p.member) p.index) once ∙ cast_f in
    cc same

-- an event says what its message says, with its time and without
payload_stays : (s : Event) → payload_of (without_time s) ≡ (message_of s).payload
payload_stays (stamped.Cast message) = refl
payload_stays (stamped.Deliver message) = refl

-- the payload of a name in a causal run is that of its message in a stamped run
pub one_name_one_payload : (size : ℕ) (lists : Lists) → Run size lists → OneNameOnePayload lists
one_name_one_payload size lists run e f (j, a, at_e) (k, b, at_f) named =
    let (times, stamped_run, same) = causal_is_erasure size lists run in
    let (s, at_s, is_e) = get_map_from without_time (times j) a e (ap (λ (xs : List CausalEvent). slice_get xs a) (same j) ∙ at_e) in
    let (t, at_t, is_f) = get_map_from without_time (times k) b f (ap (λ (xs : List CausalEvent). slice_get xs b) (same k) ∙ at_f) in
    let names : (message_of s).name ≡ (message_of t).name =
    sym (name_stays s) ∙ ap name_of is_e ∙ named ∙ sym (ap name_of is_f) ∙ name_stays t in
    let one : message_of s ≡ message_of t = one_name_one_message size times stamped_run s t (j, a, at_s) (k, b, at_t) names in
    sym (ap payload_of is_e) ∙ payload_stays s ∙ ap (λ (m : Message). m.payload) one ∙ sym (payload_stays t) ∙ ap payload_of is_f
