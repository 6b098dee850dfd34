-- A message that is delivered alone, where nothing that waits may be: what that does is what holding, releasing and delivering it does.
use Rattle.std.proofs.Common.{◌≡◌, ℕ, ◌+◌, ◌-◌, ◌<◌, List, [], ◌∷◌, ◌++◌, Bool, true, false, cond, length, set, Option, Some, None, refl, sym, ap, subst, ◌∙◌, arith, ◌⊎◌, inl, inr}
use Rattle.std.specs.FinMap as fin
use Rattle.std.specs.Prelude.{IsSome}
use Rattle.std.specs.Ordering.{eq_by_cmp}
use Rattle.std.proofs.lemmas.Bool.{cases_eq}
use Rattle.std.proofs.lemmas.List.{length-set, get_or-set_same, get_or-set_other}
use Rattle.cb_times.specs.Order.{field}
use Rattle.cb_times.specs.Time.{IsRaised}
use Rattle.cb_times.specs.declared.name.Name.{Name}
use Rattle.cb_times.proofs.Entries.{value_of}
use Rattle.cb_frames.specs.Fields.{CastFields, Carried}
use Rattle.cb_delay.specs.declared.message.Message.{Message}
use Rattle.cb_delay.specs.declared.message.Event.{Event}
use Rattle.cb_delay.specs.declared.message.Event.TheVariants.{Deliver}
use Rattle.cb_delay.specs.Message.{name_cmp}
use Rattle.cb_delay.specs.Rule.{IsReady}
use Rattle.cb_delay.specs.Queue.{Queue, IsHeld, HasReady, IsDelayQueue, FollowsLast, count_of}
use Rattle.cb_delay.proofs.Names.{names_total, exact_names, eq_by_cmp-same, eq_by_cmp-true}
use Rattle.cb_delay.proofs.Kept.{one_name}
use Rattle.cb_history.specs.Facts.{messages_in}
use Rattle.cb_history.specs.View.{count, counts, next_delivery, message_in}
use Rattle.cb_history.proofs.Views.{next_is_the_only_candidate}
use Rattle.cb_history.proofs.Names.{one_of_is_in}
use Rattle.cb_history.proofs.Delivering.{readiness_is_the_delay_rule, rule_of_times, next_is_smallest_ready, one_message}
use Rattle.cb_history.proofs.Queueing.{in_casts}
use Rattle.cb_member.specs.declared.delivery.Delivery.{Delivery}
use Rattle.cb_member.specs.Delivery.{Waits, HasNoNext, IsSettled}
use Rattle.cb_member.specs.Passing.{IsAlone, DeliversAlone}
use Rattle.cb_member.proofs.Waiting.{TakesOut, takes_next, none_next, waits_settled}
use Rattle.cb_member.proofs.Draining.{none_so_far, goes_on, is_drained}

-- ---- held and released again

taken_out : (held : fin.FinMap name_cmp Message) (name q : Name) (m : Message) (b : Bool) → fin.get held name ≡ None → eq_by_cmp name_cmp q name ≡ b → cond b None (cond b (Some m) (fin.get held q)) ≡ fin.get held q
taken_out held name q m true none e = let parts = eq_by_cmp-true q name e in sym (ap (fin.get held) (one_name q name parts.0 parts.1) ∙ none)
taken_out held name q m false none e = refl

pub held_and_taken : (held : fin.FinMap name_cmp Message) (name : Name) (m : Message) → fin.get held name ≡ None → fin.remove (fin.insert held name m) name ≡ held
held_and_taken held name m none = fin.same_map names_total exact_names _ _ (λ q.
    fin.get-remove names_total (fin.insert held name m) name q
    ∙ ap (cond (eq_by_cmp name_cmp q name) None) (fin.get-insert names_total held name m q)
    ∙ taken_out held name q m (eq_by_cmp name_cmp q name) none refl)

-- where a message follows the last one held of its sender, none is held under its name
module _ (queue : Queue) (message : Message) (is_queue : IsDelayQueue queue) (follows : FollowsLast queue message.name) where
  not_held_as : (o : Option Message) → fin.get queue.held message.name ≡ o → o ≡ None
  not_held_as None at = refl
  not_held_as (Some x) at =
      let row = is_queue.in_a_row message.name.sender in
      let n = count_of queue message.name.sender in
      let within = (row.1 message.name.number).0 (subst (λ (o : Option Message). IsSome o) (sym at) refl) in
      let last_number = row.0 + n - 1 in
      let last_name : Name = record { sender = message.name.sender; number = last_number } in
      let found = value_of (fin.get queue.held last_name) ((row.1 last_number).1 (omega (arith, within.0, within.1), omega (arith, within.0, within.1))) in
      let last : Message = found.0 in
      let named : last.name ≡ last_name = is_queue.by_name last_name last found.1 in
      let is = follows last (record {
        held = ap (fin.get queue.held) named ∙ found.1;
        of_sender = ap (λ (y : Name). y.sender) named;
        greatest = λ other held of.
            let there : fin.get queue.held (record { sender = message.name.sender; number = other.name.number }) ≡ Some other =
            ap (fin.get queue.held) (one_name (record { sender = message.name.sender; number = other.name.number }) other.name (sym of) refl) ∙ held in
            let below = (row.1 other.name.number).0 (subst (λ (o : Option Message). IsSome o) (sym there) refl) in
            let number : last.name.number ≡ last_number = ap (λ (y : Name). y.number) named in
            omega (arith, below.1, number);
      }) in
      let number : last.name.number ≡ last_number = ap (λ (y : Name). y.number) named in
      absurd (omega (arith, within.0, within.1, is, number))

  pub none_under_its_name : fin.get queue.held message.name ≡ None
  none_under_its_name = not_held_as (fin.get queue.held message.name) refl

-- the queue with the message
abbrev with_it : Queue → Message → Queue
with_it queue message = record queue { held = fin.insert queue.held message.name message }

holds_it : (queue : Queue) (message : Message) → IsHeld (with_it queue message) message
holds_it queue message = fin.get-insert names_total queue.held message.name message message.name ∙ rw (eq_by_cmp-same message.name message.name refl refl) refl

-- what is held then is the message, or was held before
it_or_before : (queue : Queue) (message other : Message) (b : Bool) → eq_by_cmp name_cmp other.name message.name ≡ b → cond b (Some message) (fin.get queue.held other.name) ≡ Some other
    → (message ≡ other) ⊎ IsHeld queue other
it_or_before queue message other true e h = inl cc
it_or_before queue message other false e h = inr h

pub held_then : (queue : Queue) (message other : Message) → IsHeld (with_it queue message) other → (message ≡ other) ⊎ IsHeld queue other
held_then queue message other h =
    it_or_before queue message other (eq_by_cmp name_cmp other.name message.name) refl (sym (fin.get-insert names_total queue.held message.name message other.name) ∙ h)

-- ---- the time

-- the count of one more message of the sender is the time raised to that of the message
pub counts_it : (now stamp : List ℕ) (sender : ℕ) → sender < length now → length stamp ≡ length now → IsReady sender (field stamp) (field now) → IsRaised now stamp (set now sender (field now sender + 1))
counts_it now stamp sender lt fits ready = record {
  size = length-set now sender (field now sender + 1);
  each = λ k. elim (cases_eq k sender) [
    | inl e ↦
        let here : field (set now sender (field now sender + 1)) k ≡ field now sender + 1 =
        ap (field (set now sender (field now sender + 1))) e ∙ get_or-set_same now sender (field now sender + 1) 0 lt in
        let stamped : field stamp k ≡ field now sender + 1 = ap (field stamp) e ∙ ready.next in
        let before : field now k ≡ field now sender = ap (field now) e in
        omega (arith, here, stamped, before)
    | inr ne ↦
        let there : field (set now sender (field now sender + 1)) k ≡ field now k = get_or-set_other now sender k (field now sender + 1) 0 ne in
        let stamped = ready.others k ne in
        omega (arith, there, stamped)
  ];
}

-- ---- the next one

-- where a message that is held may be delivered, and the next delivery is of its sender, it is that one
module _ (d : Delivery) (message : Message) (there : IsHeld d.queue message) (ready : IsReady message.name.sender (field message.time) (field d.time)) where
  pub ready_is_next : (size : ℕ) (casts : List CastFields) (seen : List Carried) (m : Carried) → Waits size casts seen d → next_delivery size casts seen ≡ Some m → m.sender ≡ message.name.sender
      → message ≡ message_in size casts m
  ready_is_next size casts seen m w next of =
      let sender = message.name.sender in
      let u = (w.queue.holds message).0 there in
      let n = u.carried in
      let name : n.sender ≡ sender = sym (ap (λ (x : Message). x.name.sender) u.timed) in
      let member : n.sender < size = w.way.members n (in_casts casts n u.expanded) in
      let rule : IsReady n.sender (field (message_in size casts n).time) (field (counts size seen)) =
      subst (λ (s : ℕ). IsReady s (field (message_in size casts n).time) (field (counts size seen))) (sym name)
      (subst (λ (x : Message). IsReady sender (field x.time) (field (counts size seen))) u.timed
      (subst (λ (time : List ℕ). IsReady sender (field message.time) (field time)) w.time ready)) in
      let number = next_is_the_only_candidate size casts seen n member ((readiness_is_the_delay_rule size casts seen n member).1 (u.unseen, (rule_of_times size casts seen n member).0 rule)) in
      let smallest = next_is_smallest_ready size casts seen m next in
      let m_there = in_casts casts m smallest.expanded in
      let m_number = next_is_the_only_candidate size casts seen m (w.way.members m m_there) smallest.ready in
      let senders : n.sender ≡ m.sender = name ∙ sym of in
      let counted : count seen n.sender ≡ count seen m.sender = ap (count seen) senders in
      let same : n ≡ m =
      one_message (messages_in casts) n m w.way.names (one_of_is_in n (messages_in casts) (in_casts casts n u.expanded)) (one_of_is_in m (messages_in casts) m_there) senders (omega (arith, number, m_number, counted)) in
      u.timed ∙ ap (message_in size casts) same

-- ---- delivered alone

module _ (d : Delivery) (message : Message) (is_queue : IsDelayQueue d.queue) (alone : IsAlone message d) where
  abbrev sender : ℕ
  sender = message.name.sender

  -- as it would be in between
  abbrev held : Delivery
  held = record d { queue = with_it d.queue message }

  ready_then : HasReady held.queue held.time sender
  ready_then = (message, holds_it d.queue message, refl, alone.ready)

  module _ (time : List ℕ) (counted : time ≡ set d.time message.name.sender (field d.time message.name.sender + 1)) where
    abbrev after : Delivery
    after = record d { time = time }

    takes_it_out : TakesOut held message.name.sender message after
    takes_it_out = record {
      between = with_it d.queue message;
      same = record { size = refl; window = refl; now_held = refl };
      smallest = record {
        ready = ready_then;
        smallest = λ other lt has. elim (held_then d.queue message has.0 has.1) [
          | inl same ↦ let here = ap (λ (x : Message). x.name.sender) same in let there = has.2 in omega (arith, lt, here, there)
          | inr before ↦ alone.leaves.none other (has.0, before, has.2, has.3)
        ];
      };
      held = holds_it d.queue message;
      next = ready_is_next held message (holds_it d.queue message) alone.ready;
      taken = record { size = refl; window = refl; now_held = sym (held_and_taken d.queue.held message.name message (none_under_its_name d.queue message is_queue (alone.turn is_queue).2)) };
      raised = subst (IsRaised d.time message.time) (sym counted) (counts_it d.time message.time message.name.sender alone.sender alone.fits alone.ready);
    }

    none_left : HasNoNext after after
    none_left = none_next after d.queue (record { size = refl; window = refl; now_held = refl }) (subst (λ (t : List ℕ). (i : ℕ) → ¬ HasReady d.queue t i) (sym counted) alone.leaves.none_then)

    pub delivers_alone : (before now : List Event) → now ≡ before ++ Deliver message ∷ [] → DeliversAlone message d after before now
    delivers_alone before now entered = record {
      held = held;
      holds = record { time = refl; is_queue = is_queue; queue = record { size = refl; window = refl; now_held = refl } };
      drains = is_drained held after after before now
          (goes_on held held after message before before now (none_so_far held before) (takes_next held message.name.sender message after takes_it_out) entered) none_left;
    }

-- ---- what the queue remembers changes nothing

pub alone_then_settled : (message : Message) (old mid new : Delivery) (before now : List Event) → DeliversAlone message old mid before now → IsSettled mid new → DeliversAlone message old new before now
alone_then_settled message old mid new before now alone settled = record {
  held = alone.held;
  holds = alone.holds;
  drains = λ size casts seen w.
      let d = alone.drains size casts seen w in record {
        more = d.more;
        drained = d.drained;
        waits = waits_settled size casts (seen ++ d.more) mid new settled d.waits;
        events = d.events;
        window = settled.queue.window ∙ d.window;
      };
}
