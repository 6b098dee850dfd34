-- The deliveries of a drain, one after another.
use Rattle.std.proofs.Common.{◌≡◌, List, [], ◌∷◌, ◌++◌, refl, sym, ap, subst, ◌∙◌, append_assoc}
use Rattle.std.proofs.lemmas.List.{append-nil, map-append}
use Rattle.cb_frames.specs.Fields.{Carried}
use Rattle.cb_delay.specs.declared.message.Message.{Message}
use Rattle.cb_delay.specs.declared.message.Event.{Event}
use Rattle.cb_delay.specs.declared.message.Event.TheVariants.{Deliver}
use Rattle.cb_history.specs.View.{drain, message_in}
use Rattle.cb_history.proofs.Delivering.{drain_goes_on, drain_ends}
use Rattle.cb_member.specs.declared.delivery.Delivery.{Delivery}
use Rattle.cb_member.specs.Delivery.{Waits, IsWaiting, DeliversNext, HasNoNext, AreDraining, Drains, delivered_in}

pub still_waits : (mid next : Delivery) (message : Message) → IsWaiting mid → DeliversNext mid next message → IsWaiting next
still_waits mid next message w d =
    let found = d.next w.size w.casts w.seen w.waits in
    record { size = w.size; casts = w.casts; seen = w.seen ++ found.0 ∷ []; waits = found.3 }

pub none_so_far : (old : Delivery) (before : List Event) → AreDraining old old before before
none_so_far old before size casts seen w = record {
  more = [];
  same_end = ap (drain size casts) (append-nil seen);
  waits = subst (λ (ms : List Carried). Waits size casts ms old) (sym (append-nil seen)) w;
  events = sym (append-nil before);
  window = refl;
}

pub goes_on : (old mid next : Delivery) (message : Message) (before now after : List Event)
    → AreDraining old mid before now → DeliversNext mid next message → after ≡ now ++ Deliver message ∷ []
    → AreDraining old next before after
goes_on old mid next message before now after way d entered size casts seen w =
    let so_far = way size casts seen w in
    let found = d.next size casts (seen ++ so_far.more) so_far.waits in
    let m = found.0 in
    let regrouped : (seen ++ so_far.more) ++ m ∷ [] ≡ seen ++ (so_far.more ++ m ∷ []) = append_assoc seen so_far.more (m ∷ []) in
    record {
      more = so_far.more ++ m ∷ [];
      same_end = ap (drain size casts) (sym regrouped) ∙ sym (drain_goes_on size casts (seen ++ so_far.more) m found.1) ∙ so_far.same_end;
      waits = subst (λ (ms : List Carried). Waits size casts ms next) regrouped found.3;
      events = entered ∙ ap (λ (es : List Event). es ++ Deliver message ∷ []) so_far.events
          ∙ append_assoc before (delivered_in size casts so_far.more) (Deliver message ∷ [])
          ∙ ap (λ (x : Message). before ++ (delivered_in size casts so_far.more ++ Deliver x ∷ [])) found.2
          ∙ ap (λ (es : List Event). before ++ es) (sym (map-append (λ n. Deliver (message_in size casts n)) so_far.more (m ∷ [])));
      window = d.window ∙ so_far.window;
    }

pub is_drained : (old mid new : Delivery) (before now : List Event) → AreDraining old mid before now → HasNoNext mid new → Drains old new before now
is_drained old mid new before now way none size casts seen w =
    let so_far = way size casts seen w in
    let last = none.none size casts (seen ++ so_far.more) so_far.waits in
    record {
      more = so_far.more;
      drained = sym so_far.same_end ∙ drain_ends size casts (seen ++ so_far.more) last.0;
      waits = last.1;
      events = so_far.events;
      window = none.window ∙ so_far.window;
    }
