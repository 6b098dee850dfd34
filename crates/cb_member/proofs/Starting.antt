-- A member without entries: what is kept is what no facts say.
use Rattle.std.proofs.Common.{◌≡◌, ℕ, zero, suc, ◌+◌, List, [], ◌∷◌, length, map, replicate, Some, None, refl, sym, ap, subst, ◌∙◌, arith, All}
use Rattle.std.specs.Prelude.{slice_get}
use Rattle.std.specs.FinMap as fin
use Rattle.std.specs.List.{AllByRecursion, range_with_len}
use Rattle.std.proofs.lemmas.List.Elements.{recursion_from_All, All-nil}
use Rattle.std.proofs.lemmas.List.{get_or-replicate, length-replicate}
use Rattle.cb_times.specs.Order.{field}
use Rattle.cb_delay.specs.Queue.{Queue, IsNew}
use Rattle.cb_gaps.specs.Buffer as buffers
use Rattle.cb_gaps.specs.Buffer.{Buffer}
use Rattle.cb_history.specs.Group.{Identity, IsIdentity}
use Rattle.cb_history.specs.View.{count, view, time_of}
use Rattle.cb_history.specs.LegalFacts.{AreFactsOf, NoFacts}
use Rattle.cb_history.specs.QueueLaws.{HoldsUndelivered}
use Rattle.cb_history.proofs.Acknowledged.{acknowledged_is_delivered}
use Rattle.cb_history.proofs.Delivering.{views_are_on_the_way}
use Rattle.cb_history.proofs.Buffers.{new_buffer_holds}
use Rattle.cb_history.proofs.Expanders.{new_expander_keeps_nothing}
use Rattle.cb_member.specs.declared.delivery.Delivery.{Delivery}
use Rattle.cb_member.specs.declared.reception.Reception.{Reception}
use Rattle.cb_member.specs.declared.knowledge.Knowledge.{Knowledge}
use Rattle.cb_member.specs.declared.sending.Sending.{Sending}
use Rattle.cb_member.specs.declared.state.State.{State}
use Rattle.cb_member.specs.Delivery.{IsNewDelivery}
use Rattle.cb_member.specs.Reception.{AreSparesOf, IsNewReception, HasReceivedAll}
use Rattle.cb_member.specs.Knowledge.{IsNewKnowledge, KnowsFacts}
use Rattle.cb_member.specs.Relaying.{KeepsAllRelays}
use Rattle.cb_member.specs.Sending.{IsNewSending, HasSent}
use Rattle.cb_member.specs.State.{HasDelivered, IsNewState, Keeps}

no_facts : (seat : Identity) → IsIdentity seat → AreFactsOf seat []
no_facts seat is = record { group = is.group; member = is.member; facts_are = NoFacts }

none_counted : (a n : ℕ) → map (count []) (range_with_len a n) ≡ replicate n 0
none_counted a zero = refl
none_counted a (suc n) = ap (λ (ns : List ℕ). 0 ∷ ns) (none_counted (a + 1) n)

no_time : (size : ℕ) → time_of size [] ≡ replicate size 0
unfolding view
no_time size = none_counted 0 size

none_waits : (size window : ℕ) (queue : Queue) → IsNew size window queue → HoldsUndelivered size [] [] queue
none_waits size window queue new = record {
  of_size = new.of_size;
  holds = λ message. (
    λ h. absurd (let none : fin.get queue.held message.name ≡ None = ap (λ held. fin.get held message.name) new.empty ∙ fin.get-empty _ message.name in cc),
    λ u. absurd u.expanded,
  );
}

nothing_delivered : (seat : Identity) (d : Delivery) → IsIdentity seat → IsNewDelivery seat.group.size seat.group.window d → HasDelivered seat [] d
unfolding view
nothing_delivered seat d is new = record {
  waits = record {
    way = views_are_on_the_way seat [] (no_facts seat is);
    time = new.time ∙ sym (no_time seat.group.size);
    queue = none_waits seat.group.size seat.group.window d.queue new.queue;
  };
  window = new.queue.of_window;
}

one_item : (b c : Buffer) → Some b ≡ Some c → b ≡ c
one_item b c e = cc

one_of_each : (P : Buffer → Type 0) (bs : List Buffer) (i : ℕ) (b : Buffer) → AllByRecursion P bs → slice_get bs i ≡ Some b → P b
one_of_each P [] i b all at = absurd cc
one_of_each P (x ∷ bs) zero b all at = subst P (one_item x b at) all.0
one_of_each P (x ∷ bs) (suc i) b all at = one_of_each P bs i b all.1 at

each_new : (window : ℕ) (bs : List Buffer) (i : ℕ) (b : Buffer) → All (buffers.IsNew window) bs → slice_get bs i ≡ Some b → buffers.IsNew window b
each_new window bs i b all at = one_of_each (buffers.IsNew window) bs i b (recursion_from_All (buffers.IsNew window) bs all) at

same_stack : (a b : List (List ℕ)) → Some a ≡ Some b → a ≡ b
same_stack a b e = cc

each_empty : (n i : ℕ) (spares : List (List ℕ)) → slice_get (replicate n (let none : List (List ℕ) = [] in none)) i ≡ Some spares → spares ≡ []
each_empty zero i spares at = absurd cc
each_empty (suc n) zero spares at = sym (same_stack [] spares at)
each_empty (suc n) (suc i) spares at = each_empty n i spares at

no_spares : (size window : ℕ) (b : Buffer) (spares : List (List ℕ)) → buffers.IsNew window b → spares ≡ [] → AreSparesOf size b spares
no_spares size window b spares new none = record {
  count = ap length none ∙ sym (ap (λ kept. fin.len kept) new.none_kept ∙ fin.len-empty _ _);
  sizes = rw none (All-nil (λ (time : List ℕ). length time ≡ size));
}

nothing_received : (seat : Identity) (r : Reception) → IsIdentity seat → IsNewReception seat.group.size seat.group.window r → HasReceivedAll seat [] r
nothing_received seat r is new = record {
  senders = new.senders;
  waits = λ i b at other. new_buffer_holds seat.group.window i b (each_new seat.group.window r.buffers.items i b new.buffers at);
  taken_are = λ i b at other. (each_new seat.group.window r.buffers.items i b new.buffers at).none_taken;
  windows = λ i b at. (each_new seat.group.window r.buffers.items i b new.buffers at).of_window;
  times = λ i lt other. rw new.expander (new_expander_keeps_nothing seat [] i (no_facts seat is) lt);
  stacks = ap length new.spares ∙ length-replicate seat.group.size [];
  spares = λ i b spares at those. no_spares seat.group.size seat.group.window b spares (each_new seat.group.window r.buffers.items i b new.buffers at)
      (each_empty seat.group.size i spares (ap (λ (all : List (List (List ℕ))). slice_get all i) (sym new.spares) ∙ those));
}

nothing_known : (seat : Identity) (k : Knowledge) → IsIdentity seat → IsNewKnowledge seat.group.size k → KnowsFacts seat [] k
unfolding view
nothing_known seat k is new = record {
  fields = ap length new.known ∙ length-replicate seat.group.size 0;
  heard = λ i lt other. ap (λ (ns : List ℕ). field ns i) new.known ∙ get_or-replicate seat.group.size i 0 0 lt;
  acknowledged = record { member = is.member; of_size = new.acks.of_size; learnt = λ j i member within other. new.acks.none j i; own = λ i within. new.acks.none seat.me i };
}

nothing_sent : (seat : Identity) (s : Sending) → IsIdentity seat → IsNewSending seat.group.size seat.group.window s → HasSent seat [] s
unfolding view
nothing_sent seat s is new = record {
  window = record {
    width = new.fresh.of_window;
    put = new.fresh.none_put;
    trimmed = let most = (acknowledged_is_delivered seat [] (no_facts seat is)).1 in let none = new.fresh.none_trimmed in omega (arith, most, none);
    kept = new.fresh.empty;
  };
  last_cast = new.no_cast ∙ sym (no_time seat.group.size);
  fields = ap length new.fields ∙ length-replicate seat.group.size 0;
  reported = rw new.not_reported refl;
}

-- a new state keeps what no facts say
pub new_keeps : (seat : Identity) (state : State) → IsIdentity seat → IsNewState seat state → Keeps [] state
new_keeps seat state is new = record {
  delivered = subst (λ (s : Identity). HasDelivered s [] state.delivery) (sym new.of_seat) (nothing_delivered seat state.delivery is new.delivery);
  received = subst (λ (s : Identity). HasReceivedAll s [] state.reception) (sym new.of_seat) (nothing_received seat state.reception is new.reception);
  knows = subst (λ (s : Identity). KnowsFacts s [] state.knowledge) (sym new.of_seat) (nothing_known seat state.knowledge is new.knowledge);
  sent = subst (λ (s : Identity). HasSent s [] state.sending) (sym new.of_seat) (nothing_sent seat state.sending is new.sending);
  relayed = subst (λ (s : Identity). KeepsAllRelays s [] state.relays.items) (sym new.of_seat) new.relays;
}
