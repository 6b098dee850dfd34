-- All that happened before a message stands before it in each list that has it, and all that stands before a cast happened before it.
use Rattle.std.specs.Prelude.{slice_get}
use Rattle.std.proofs.Common.{◌≡◌, ℕ, suc, ◌<◌, ◌≤◌, inl, inr, List, take, Some, sym, ◌∙◌, ap, subst, arith}
use Rattle.std.proofs.lemmas.Bool.{cases_eq}
use Rattle.cb_times.specs.declared.name.Name.{Name}
use Rattle.cb_delay.specs.Message.{message_of}
use Rattle.cb_delay.specs.declared.message.Event.{Event}
use Rattle.cb_delay.specs.declared.message.Event.TheVariants as stamped
use Rattle.cb_causality.specs.declared.event.CausalEvent.{CausalEvent}
use Rattle.cb_causality.specs.declared.event.CausalEvent.TheVariants.{Cast, Deliver}
use Rattle.cb_causality.specs.Events.{name_of, count}
use Rattle.cb_causality.specs.HappenedBefore.{Lists, IsDeliveryAt, HappenedBefore}
use Rattle.cb_causality.specs.Laws.{IsOrPrecedes}
use Rattle.cb_causality.specs.StampedMachine.{StampedLists, StampedRun, erased, without_time}
use Rattle.cb_causality.proofs.Clock.{clock, counted_is_past, past_is_counted}
use Rattle.cb_causality.proofs.Counting.{get_map, get_take_from}
use Rattle.cb_causality.proofs.Names.{IsSound, number_within, stands_within, cast_number}
use Rattle.cb_causality.proofs.OneMessage.{message_is_cast}
use Rattle.cb_causality.proofs.Runs.{IsRegular, run_regular, regular_irreflexive}
use Rattle.cb_causality.proofs.Stamps.{stamped_is_causal}

module _ (lists : Lists) (reg : IsRegular lists) where
  -- what the past of an event's message counts, its list counts up to it
  counted_at : (j a : ℕ) (e : CausalEvent) → slice_get (lists j) a ≡ Some e → (m : Name) → HappenedBefore lists m (name_of e)
      → m.number ≤ count m.sender (take (suc a) (lists j))
  counted_at j a (Cast x payload) at m h =
      past_is_counted lists reg.sound reg.closed (record { member = j; index = a }) x m (record { payload = payload; stands = at }) h
  counted_at j a (Deliver x payload) at m h =
      let delivery : IsDeliveryAt lists (record { member = j; index = a }) x = record { payload = payload; stands = at } in
      let (index, cast) = reg.sound.sent (record { member = j; index = a }) x delivery in
      let there : m.number ≤ clock lists (record { member = x.sender; index = index }) m.sender =
      past_is_counted lists reg.sound reg.closed (record { member = x.sender; index = index }) x m cast h in
      let here : clock lists (record { member = x.sender; index = index }) m.sender ≤ count m.sender (take (suc a) (lists j)) =
      reg.closed (record { member = x.sender; index = index }) (record { member = j; index = a }) x cast delivery m.sender in
      omega arith

  -- where a message stands, its past stands before it
  pub past_stands : (j a : ℕ) (e : CausalEvent) → slice_get (lists j) a ≡ Some e → (m : Name) → HappenedBefore lists m (name_of e)
      → (i : ℕ) × (f : CausalEvent) × (i < a) × (slice_get (lists j) i ≡ Some f) × (name_of f ≡ m)
  past_stands j a e at m h =
      let one : 1 ≤ m.number = cast_number lists reg.sound h.from m h.cast_earlier in
      let (i, f, less, stands, called) = stands_within lists reg.sound j (suc a) m.sender m.number one (counted_at j a e at m h) in
      elim (cases_eq i a) [
        | inl same ↦
            let here : Some f ≡ Some e = sym stands ∙ ap (slice_get (lists j)) same ∙ at in
            let is : f ≡ e = cc here in
            let itself : name_of e ≡ m = sym (ap name_of is) ∙ called in
            absurd (regular_irreflexive lists reg m (subst (λ (x : Name). HappenedBefore lists m x) itself h))
        | inr other ↦ (i, f, omega arith, stands, called)
      ]

  -- so it, and its past, stand up to it
  pub stands_up_to : (j a : ℕ) (e : CausalEvent) → slice_get (lists j) a ≡ Some e → (m : Name) → IsOrPrecedes lists m (name_of e)
      → (i : ℕ) × (f : CausalEvent) × (i ≤ a) × (slice_get (lists j) i ≡ Some f) × (name_of f ≡ m)
  stands_up_to j a e at m (inl same) = (a, e, omega arith, at, sym same)
  stands_up_to j a e at m (inr before) =
      let (i, f, less, stands, called) = past_stands j a e at m before in
      (i, f, omega arith, stands, called)

  -- what stands up to a cast is it, or happened before it
  pub precedes_cast : (j i a : ℕ) (f : CausalEvent) (m : Name) (payload : List ℕ) → slice_get (lists j) i ≡ Some f
      → slice_get (lists j) a ≡ Some (Cast m payload) → i ≤ a → IsOrPrecedes lists (name_of f) m
  precedes_cast j i a f m payload at_f at_m upto =
      let there : slice_get (take (suc a) (lists j)) i ≡ Some f = get_take_from (lists j) (suc a) i (omega arith) ∙ at_f in
      let (one, most) = number_within lists reg.sound j (suc a) i f there in
      counted_is_past lists reg.sound (record { member = j; index = a }) m (record { payload = payload; stands = at_m })
      (name_of f).sender (name_of f).number one most

-- the message of each event is cast in its sender's list
pub cast_at_sender : (size : ℕ) (lists : StampedLists) → StampedRun size lists → (j a : ℕ) (s : Event) → slice_get (lists j) a ≡ Some s
    → (b : ℕ) × (slice_get (lists (message_of s).name.sender) b ≡ Some (stamped.Cast (message_of s)))
cast_at_sender size lists run j a s at =
    let (k, b, cast) = message_is_cast size lists run j a s at in
    let sound : IsSound (erased lists) = (run_regular size (erased lists) (stamped_is_causal size lists run)).sound in
    let own : (message_of s).name.sender ≡ k =
    sound.casters (record { member = k; index = b }) (message_of s).name
    (record { payload = (message_of s).payload; stands = get_map without_time (lists k) b (stamped.Cast (message_of s)) cast }) in
    (b, subst (λ (i : ℕ). slice_get (lists i) b ≡ Some (stamped.Cast (message_of s))) (sym own) cast)
