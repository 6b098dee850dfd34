-- States that are alike keep the same facts, and what holds of the one holds of the other.
use Rattle.std.proofs.Common.{◌≡◌, ℕ, ◌+◌, List, [], ◌∷◌, ◌++◌, length, Some, refl, sym, ap, subst, ◌∙◌, arith}
use Rattle.std.specs.Prelude.{slice_get, slice_set}
use Rattle.std.specs.FinMap as fin
use Rattle.cb_times.specs.Order.{field}
use Rattle.cb_frames.specs.Fields.{CastFields}
use Rattle.cb_delay.specs.declared.message.Message.{Message}
use Rattle.cb_delay.specs.Message.{name_cmp}
use Rattle.cb_delay.specs.Queue.{Queue, Holds, HasReady}
use Rattle.cb_gaps.specs.Buffer.{Buffer}
use Rattle.cb_history.specs.Group.{Identity}
use Rattle.cb_history.specs.Facts.{Fact, CastReceived}
use Rattle.cb_history.specs.LegalFacts.{AreFactsOf}
use Rattle.cb_history.specs.ExpanderLaws.{KeepsTimeOf}
use Rattle.cb_member.specs.declared.delivery.Delivery.{Delivery}
use Rattle.cb_member.specs.declared.reception.Reception.{Reception}
use Rattle.cb_member.specs.declared.state.State.{State}
use Rattle.cb_member.specs.Delivery.{IsSettled, NoneReady, LeavesWaiting}
use Rattle.cb_member.specs.Knowledge.{KnowsFacts}
use Rattle.cb_member.specs.Reception as reception
use Rattle.cb_member.specs.Reception.{HasReceived, HasReceivedAll}
use Rattle.cb_member.specs.Relaying.{KeepsAllRelays}
use Rattle.cb_member.specs.Sending.{HasSent}
use Rattle.cb_member.specs.State.{HasDelivered, IsAlike, Keeps}
use Rattle.cb_member.specs.Taking.{CanFollow, CanKeep, WouldExpand}
use Rattle.cb_member.specs.Passing.{IsInOrder}
use Rattle.cb_member.specs.Course.{HoldsAtMost}
use Rattle.cb_member.proofs.Waiting.{held_alike}

-- ---- a queue that holds the same

pub ready_alike : (old new : Queue) (now : List ℕ) (i : ℕ) → Holds old new old.held → HasReady new now i → HasReady old now i
ready_alike old new now i same ready = (ready.0, sym (ap (λ (held : fin.FinMap name_cmp Message). fin.get held ready.0.name) same.now_held) ∙ ready.1, ready.2, ready.3)

-- ---- a delivery that is settled

pub delivered_alike : (seat : Identity) (facts : List Fact) (old new : Delivery) → IsSettled old new → HasDelivered seat facts old → HasDelivered seat facts new
delivered_alike seat facts old new same has = record {
  waits = record { way = has.waits.way; time = same.time ∙ has.waits.time; queue = held_alike _ _ _ old.queue new.queue same.queue has.waits.queue };
  window = same.queue.window ∙ has.window;
}

pub none_ready_alike : (old new : Delivery) → IsSettled old new → NoneReady old → NoneReady new
none_ready_alike old new same none i ready =
    none i (subst (λ (time : List ℕ). HasReady old.queue time i) same.time (ready_alike old.queue new.queue new.time i same.queue ready))

pub leaves_alike : (sender : ℕ) (old new : Delivery) → IsSettled old new → LeavesWaiting sender old → LeavesWaiting sender new
leaves_alike sender old new same leaves = record {
  none = none_ready_alike old new same leaves.none;
  none_then = λ i ready. leaves.none_then i
      (subst (λ (time : List ℕ). HasReady old.queue (slice_set time sender (field time sender + 1)) i) same.time (ready_alike old.queue new.queue _ i same.queue ready));
}

-- ---- a reception with more room

buffer_before : (old new : Reception) → reception.IsAlike old new → (i : ℕ) (b : Buffer) → slice_get new.buffers.items i ≡ Some b → slice_get old.buffers.items i ≡ Some b
buffer_before old new same i b at = ap (λ (bs : List Buffer). slice_get bs i) (sym same.buffers) ∙ at

pub reception_alike : (seat : Identity) (facts : List Fact) (taken : ℕ → ℕ) (old new : Reception) → reception.IsAlike old new → HasReceived seat facts taken old → HasReceived seat facts taken new
reception_alike seat facts taken old new same has = record {
  senders = ap (λ (bs : List Buffer). length bs) same.buffers ∙ has.senders;
  waits = λ i b at other. has.waits i b (buffer_before old new same i b at) other;
  taken_are = λ i b at other. has.taken_are i b (buffer_before old new same i b at) other;
  windows = λ i b at. has.windows i b (buffer_before old new same i b at);
  times = λ i lt other. subst (KeepsTimeOf seat facts i (taken i)) (sym same.expander) (has.times i lt other);
  stacks = ap (λ (spares : List (List (List ℕ))). length spares) same.spares ∙ has.stacks;
  spares = λ i b spares at those. has.spares i b spares (buffer_before old new same i b at) (ap (λ (all : List (List (List ℕ))). slice_get all i) (sym same.spares) ∙ those);
}

pub reception_back : (old new : Reception) → reception.IsAlike old new → reception.IsAlike new old
reception_back old new same = record { buffers = sym same.buffers; expander = sym same.expander; spares = sym same.spares }

pub in_order_alike : (sender number : ℕ) (old new : Reception) → reception.IsAlike old new → IsInOrder sender number old → IsInOrder sender number new
in_order_alike sender number old new same is = record { buffer = is.buffer; at = buffer_before new old (reception_back old new same) sender is.buffer is.at; in_order = is.in_order }

pub would_expand_alike : (sender first last more : ℕ) (old new : Reception) → reception.IsAlike old new → WouldExpand sender first last old more → WouldExpand sender first last new more
would_expand_alike sender first last more old new same would seat facts c are of_sender begins ends has =
    would seat facts c are of_sender begins ends (reception_alike seat facts _ new old (reception_back old new same) has)

-- ---- the whole state

pub alike_back : (old new : State) → IsAlike old new → IsAlike new old
alike_back old new same = record {
  seat = sym same.seat;
  delivery = record { time = sym same.delivery.time; queue = record { size = sym same.delivery.queue.size; window = sym same.delivery.queue.window; now_held = sym same.delivery.queue.now_held } };
  reception = reception_back old.reception new.reception same.reception;
  knowledge = sym same.knowledge;
  sending = sym same.sending;
  relays = sym same.relays;
}

pub alike_again : (a b d : State) → IsAlike a b → IsAlike b d → IsAlike a d
alike_again a b d first later = record {
  seat = later.seat ∙ first.seat;
  delivery = record {
    time = later.delivery.time ∙ first.delivery.time;
    queue = record {
      size = later.delivery.queue.size ∙ first.delivery.queue.size;
      window = later.delivery.queue.window ∙ first.delivery.queue.window;
      now_held = later.delivery.queue.now_held ∙ first.delivery.queue.now_held;
    };
  };
  reception = record {
    buffers = later.reception.buffers ∙ first.reception.buffers;
    expander = later.reception.expander ∙ first.reception.expander;
    spares = later.reception.spares ∙ first.reception.spares;
  };
  knowledge = later.knowledge ∙ first.knowledge;
  sending = later.sending ∙ first.sending;
  relays = later.relays ∙ first.relays;
}

settled_itself : (d : Delivery) → IsSettled d d
settled_itself d = record { time = refl; queue = record { size = refl; window = refl; now_held = refl } }

pub alike_itself : (state : State) → IsAlike state state
alike_itself state = record { seat = refl; delivery = settled_itself state.delivery; reception = record { buffers = refl; expander = refl; spares = refl }; knowledge = refl; sending = refl; relays = refl }

pub with_room : (state : State) (r : Reception) → reception.IsAlike state.reception r → IsAlike state (record state { reception = r })
with_room state r same = record { seat = refl; delivery = settled_itself state.delivery; reception = same; knowledge = refl; sending = refl; relays = refl }

pub with_settled : (state : State) (d : Delivery) → IsSettled state.delivery d → IsAlike state (record state { delivery = d })
with_settled state d same = record { seat = refl; delivery = same; reception = record { buffers = refl; expander = refl; spares = refl }; knowledge = refl; sending = refl; relays = refl }

pub with_both : (state : State) (d : Delivery) (r : Reception) → IsSettled state.delivery d → reception.IsAlike state.reception r → IsAlike state (record state { delivery = d; reception = r })
with_both state d r settled same = record { seat = refl; delivery = settled; reception = same; knowledge = refl; sending = refl; relays = refl }

pub keeps_alike : (facts : List Fact) (old new : State) → IsAlike old new → Keeps facts old → Keeps facts new
keeps_alike facts old new same k = record {
  delivered = subst (λ (seat : Identity). HasDelivered seat facts new.delivery) (sym same.seat) (delivered_alike old.seat facts old.delivery new.delivery same.delivery k.delivered);
  received = subst (λ (seat : Identity). HasReceivedAll seat facts new.reception) (sym same.seat) (reception_alike old.seat facts _ old.reception new.reception same.reception k.received);
  knows = subst (λ (seat : Identity). KnowsFacts seat facts new.knowledge) (sym same.seat) (subst (KnowsFacts old.seat facts) (sym same.knowledge) k.knows);
  sent = subst (λ (seat : Identity). HasSent seat facts new.sending) (sym same.seat) (subst (HasSent old.seat facts) (sym same.sending) k.sent);
  relayed = subst (λ (seat : Identity). KeepsAllRelays seat facts new.relays.items) (sym same.seat) (subst (KeepsAllRelays old.seat facts) (sym same.relays) k.relayed);
}

pub legal_alike : (facts : List Fact) (old new : State) → IsAlike old new → AreFactsOf old.seat facts → AreFactsOf new.seat facts
legal_alike facts old new same are = subst (λ (seat : Identity). AreFactsOf seat facts) (sym same.seat) are

can_keep_alike : (c : CastFields) (old new : State) → IsAlike old new → CanKeep (field old.delivery.time c.sender) c old.reception → CanKeep (field new.delivery.time c.sender) c new.reception
can_keep_alike c old new same can =
    subst (λ (time : List ℕ). CanKeep (field time c.sender) c new.reception) (sym same.delivery.time)
    (record { buffer = can.buffer; at = buffer_before new.reception old.reception (reception_back old.reception new.reception same.reception) c.sender can.buffer can.at; upto_taken = can.upto_taken; is_kept = can.is_kept })

pub can_follow_alike : (c : CastFields) (old new : State) → IsAlike old new → CanFollow c old → CanFollow c new
can_follow_alike c old new same can = record {
  facts = can.facts;
  legal = legal_alike (can.facts ++ CastReceived c ∷ []) old new same can.legal;
  keeps = keeps_alike can.facts old new same can.keeps;
  can_keep = can_keep_alike c old new same can.can_keep;
}

pub holds_alike : (c : CastFields) (count : ℕ) (old new : State) → IsAlike old new → HoldsAtMost c old count → HoldsAtMost c new count
holds_alike c count old new same holds facts are keeps =
    let back = alike_back old new same in
    let before = holds facts (legal_alike (facts ++ CastReceived c ∷ []) new old back are) (keeps_alike facts new old back keeps) in
    let held : fin.len new.delivery.queue.held ≡ fin.len old.delivery.queue.held = ap (λ (m : fin.FinMap name_cmp Message). fin.len m) same.delivery.queue.now_held in
    omega (arith, before, held)
