-- One delivery of what waits, and none.
use Rattle.std.proofs.Common.{◌≡◌, ℕ, ◌++◌, ◌+◌, ◌-◌, ◌<◌, Bool, true, false, cond, List, [], ◌∷◌, length, None, Some, sym, ap, subst, ◌∙◌, arith}
use Rattle.std.specs.FinMap as fin
use Rattle.std.specs.Prelude.{is_some, not, IfNone, Option}
use Rattle.std.proofs.lemmas.List.FromFn.{length-map-range_with_len}
use Rattle.cb_times.specs.Order.{field}
use Rattle.cb_times.specs.Time.{IsRaised}
use Rattle.cb_times.specs.declared.name.Name.{Name}
use Rattle.cb_frames.specs.Fields.{CastFields, Carried}
use Rattle.cb_delay.specs.declared.message.Message.{Message}
use Rattle.cb_delay.specs.Message.{name_cmp}
use Rattle.cb_delay.specs.Rule.{IsReady}
use Rattle.cb_delay.specs.Queue.{Queue, Holds, IsHeld, HasReady, IsSmallestReady, IsFirst, Releases}
use Rattle.cb_delay.proofs.Names.{names_total}
use Rattle.cb_delay.proofs.Room.{none_is_held}
use Rattle.cb_diffs.specs.Expansion.{expanded_field}
use Rattle.cb_history.specs.View.{count, counts, next_delivery, message_in}
use Rattle.cb_history.specs.QueueLaws.{HoldsUndelivered}
use Rattle.cb_history.proofs.Delivering.{readiness_is_the_delay_rule, rule_of_times, raising_counts_the_delivery, delivery_leaves_on_the_way, next_is_smallest_ready}
use Rattle.cb_history.proofs.Queueing.{in_casts, next_ready_is_next_delivery, none_ready_is_nothing_next, first_is_next_delivery, release_is_delivery}
use Rattle.cb_member.specs.declared.delivery.Delivery.{Delivery}
use Rattle.cb_member.specs.Delivery.{Waits, IsWaiting, IsSettled, DeliversNext, HasNoNext}

-- a queue with the same messages holds the same
pub held_alike : (size : ℕ) (casts : List CastFields) (seen : List Carried) (old new : Queue) → Holds old new old.held → HoldsUndelivered size casts seen old → HoldsUndelivered size casts seen new
held_alike size casts seen old new same holds = record {
  of_size = same.size ∙ holds.of_size;
  holds = λ message. (
    λ h. (holds.holds message).0 (ap (λ held. fin.get held message.name) (sym same.now_held) ∙ h),
    λ u. ap (λ held. fin.get held message.name) same.now_held ∙ (holds.holds message).1 u,
  );
}

pub time_fits : (d : Delivery) → IsWaiting d → length d.time ≡ d.queue.size
time_fits d w = ap length w.waits.time ∙ length-map-range_with_len (count w.seen) 0 w.size ∙ sym w.waits.queue.of_size

-- no sender has a ready message
pub none_next : (d : Delivery) (queue : Queue) → Holds d.queue queue d.queue.held → ((sender : ℕ) → ¬ HasReady d.queue d.time sender) → HasNoNext d (record d { queue = queue })
none_next d queue same none = record {
  none = λ size casts seen w. (
    (none_ready_is_nothing_next size casts seen d.queue w.way w.queue).0 (λ sender. subst (λ (time : List ℕ). ¬ HasReady d.queue time sender) w.time (none sender)),
    record { way = w.way; time = w.time; queue = held_alike size casts seen d.queue queue same w.queue },
  );
  window = same.window;
}

some_entry : (es : List (Name × Message)) (name : Name) (message : Message) → fin.find name_cmp name es ≡ Some message → 0 < length es
some_entry [] name message h = absurd cc
some_entry (e ∷ es) name message h = omega arith

held_some : (held : fin.FinMap name_cmp Message) (name : Name) (message : Message) → fin.get held name ≡ Some message → 0 < fin.len held
held_some held name message h =
    let some = some_entry (fin.entries held) name message (sym (fin.get-entries held name) ∙ h) in
    omega (arith, some, fin.len-entries held)

-- the smallest sender with a ready message, its next message, which is taken out, and the time raised
pub record TakesOut (d : Delivery) (sender : ℕ) (message : Message) (new : Delivery) : Type 0 where
  pub between : Queue
  pub same : Holds d.queue between d.queue.held
  pub smallest : IsSmallestReady d.queue d.time sender
  pub held : IsHeld between message
  pub next : (size : ℕ) (casts : List CastFields) (seen : List Carried) (m : Carried) → Waits size casts seen d → next_delivery size casts seen ≡ Some m → m.sender ≡ sender
      → message ≡ message_in size casts m
  pub taken : Releases between new.queue message
  pub raised : IsRaised d.time message.time new.time

pub takes_next : (d : Delivery) (sender : ℕ) (message : Message) (new : Delivery) → TakesOut d sender message new → DeliversNext d new message
takes_next d sender message new t = record {
  next = λ size casts seen w.
      let found = (next_ready_is_next_delivery size casts seen d.queue w.way w.queue sender).0 (subst (λ (time : List ℕ). IsSmallestReady d.queue time sender) w.time t.smallest) in
      let m = found.0 in
      let next = found.1 in
      let between = held_alike size casts seen d.queue t.between t.same w.queue in
      let is : message ≡ message_in size casts m = t.next size casts seen m w next found.2 in
      let smallest = next_is_smallest_ready size casts seen m next in
      let member : m.sender < size = w.way.members m (in_casts casts m smallest.expanded) in
      let rule = ((readiness_is_the_delay_rule size casts seen m member).0 smallest.ready).1 in (
        m,
        next,
        is,
        record {
          way = delivery_leaves_on_the_way size casts seen m w.way next;
          time = raising_counts_the_delivery size casts seen m new.time member rule
              (subst (λ (time : List ℕ). IsRaised time (message_in size casts m).time new.time) w.time (subst (λ (x : Message). IsRaised d.time x.time new.time) is t.raised));
          queue = release_is_delivery size casts seen t.between w.way between m new.queue next (subst (λ (x : Message). Releases t.between new.queue x) is t.taken);
        },
      );
  window = t.taken.window ∙ t.same.window;
  one_less = one_out;
}
  where
    one_out : fin.len new.queue.held + 1 ≡ fin.len d.queue.held
    one_out =
        let key : fin.contains_key t.between.held message.name ≡ true = ap is_some t.held in
        let fewer : fin.len (fin.remove t.between.held message.name) ≡ fin.len t.between.held - 1 =
        fin.len-remove names_total t.between.held message.name ∙ ap (λ (b : Bool). cond b (fin.len t.between.held - 1) (fin.len t.between.held)) key in
        let some = held_some t.between.held message.name message t.held in
        let now : fin.len new.queue.held ≡ fin.len (fin.remove t.between.held message.name) = ap (λ (m : fin.FinMap name_cmp Message). fin.len m) t.taken.now_held in
        let before : fin.len t.between.held ≡ fin.len d.queue.held = ap (λ (m : fin.FinMap name_cmp Message). fin.len m) t.same.now_held in
        omega (arith, fewer, some, now, before)

-- ---- what the queue remembers changes nothing

pub waits_settled : (size : ℕ) (casts : List CastFields) (seen : List Carried) (mid new : Delivery) → IsSettled mid new → Waits size casts seen mid → Waits size casts seen new
waits_settled size casts seen mid new settled w = record {
  way = w.way;
  time = settled.time ∙ w.time;
  queue = held_alike size casts seen mid.queue new.queue settled.queue w.queue;
}

pub next_then_settled : (old mid new : Delivery) (message : Message) → DeliversNext old mid message → IsSettled mid new → DeliversNext old new message
next_then_settled old mid new message d settled = record {
  next = λ size casts seen w. let n = d.next size casts seen w in (n.0, n.1, n.2, waits_settled size casts (seen ++ n.0 ∷ []) mid new settled n.3);
  window = settled.queue.window ∙ d.window;
  one_less = ap (λ (held : fin.FinMap name_cmp Message). fin.len held + 1) settled.queue.now_held ∙ d.one_less;
}

-- of a sender the first message held is its next one
pub first_is_next : (d : Delivery) (between : Queue) (sender : ℕ) (message : Message) → Holds d.queue between d.queue.held → IsFirst between sender message
    → (size : ℕ) (casts : List CastFields) (seen : List Carried) (m : Carried) → Waits size casts seen d → next_delivery size casts seen ≡ Some m → m.sender ≡ sender
    → message ≡ message_in size casts m
first_is_next d between sender message same first size casts seen m w next of =
    first_is_next_delivery size casts seen between w.way (held_alike size casts seen d.queue between same w.queue) m message next (subst (λ (s : ℕ). IsFirst between s message) (sym of) first)

-- which may be delivered
pub record IsOnTurn (d : Delivery) (sender : ℕ) (message : Message) : Type 0 where
  pub member : sender < length d.time
  pub fits : length message.time ≡ length d.time
  pub ready : IsReady sender (field message.time) (field d.time)

pub first_is_on_turn : (d : Delivery) (between : Queue) (sender : ℕ) (message : Message) → Holds d.queue between d.queue.held → IsFirst between sender message → IsWaiting d → IsSmallestReady d.queue d.time sender
    → IsOnTurn d sender message
first_is_on_turn d between sender message same first waiting smallest =
    let size = waiting.size in
    let casts = waiting.casts in
    let seen = waiting.seen in
    let w = waiting.waits in
    let found = (next_ready_is_next_delivery size casts seen d.queue w.way w.queue sender).0 (subst (λ (time : List ℕ). IsSmallestReady d.queue time sender) w.time smallest) in
    let m : Carried = found.0 in
    let is : message ≡ message_in size casts m = first_is_next d between sender message same first size casts seen m w found.1 found.2 in
    let next = next_is_smallest_ready size casts seen m found.1 in
    let member : m.sender < size = w.way.members m (in_casts casts m next.expanded) in
    let rule = (rule_of_times size casts seen m member).1 ((readiness_is_the_delay_rule size casts seen m member).0 next.ready).1 in
    let long : length d.time ≡ size = ap length w.time ∙ length-map-range_with_len (count seen) 0 size in
    record {
      member = subst (λ (n : ℕ). sender < n) (sym long) (subst (λ (s : ℕ). s < size) found.2 member);
      fits = ap (λ (x : Message). length x.time) is ∙ length-map-range_with_len (expanded_field casts m.sender m.number) 0 size ∙ sym long;
      ready = subst (λ (time : List ℕ). IsReady sender (field message.time) (field time)) (sym w.time)
          (subst (λ (x : Message). IsReady sender (field x.time) (field (counts size seen))) (sym is)
          (subst (λ (s : ℕ). IsReady s (field (message_in size casts m).time) (field (counts size seen))) found.2 rule));
    }

-- ---- nothing is ready

-- where nothing is held
pub none_ready_of_none : (queue : Queue) (time : List ℕ) → fin.len queue.held ≡ 0 → (i : ℕ) → ¬ HasReady queue time i
none_ready_of_none queue time none i has = none_is_held queue (fin.empty_of_len queue.held none) has.0 has.1

-- where the queue names no sender
pub none_named : (P : Type 0) (o : Option ℕ) (named : Bool) → is_some o ≡ not named → named ≡ true → IfNone o P → P
none_named P None named is none h = h
none_named P (Some i) named is none h = absurd (let no : true ≡ false = is ∙ ap not none in cc)
