-- What stays as it is where a fact is no cast.
use Rattle.std.proofs.Common.{◌≡◌, List, sym, ap, subst, ◌∙◌}
use Rattle.cb_frames.specs.Fields.{CastFields, Carried}
use Rattle.cb_diffs.specs.Expansion.{expanded_time}
use Rattle.cb_history.specs.Group.{Identity}
use Rattle.cb_history.specs.Facts.{Fact, casts_in}
use Rattle.cb_history.specs.View.{view}
use Rattle.cb_history.specs.Known.{expanded_count}
use Rattle.cb_history.specs.BufferLaws.{HoldsWhatWaits}
use Rattle.cb_history.specs.Singles.{singles_among}
use Rattle.cb_member.specs.declared.delivery.Delivery.{Delivery}
use Rattle.cb_member.specs.declared.reception.Reception.{Reception}
use Rattle.cb_member.specs.Delivery.{Waits}
use Rattle.cb_member.specs.Reception.{HasReceivedAll}
use Rattle.cb_member.specs.State.{HasDelivered}

pub delivered_stays : (seat : Identity) (facts now : List Fact) (d : Delivery) → casts_in now ≡ casts_in facts → view seat.group.size now ≡ view seat.group.size facts → HasDelivered seat facts d → HasDelivered seat now d
delivered_stays seat facts now d casts seen has = record {
  waits = subst (λ (cs : List CastFields). Waits seat.group.size cs (view seat.group.size now) d) (sym casts) (subst (λ (ms : List Carried). Waits seat.group.size (casts_in facts) ms d) (sym seen) has.waits);
  window = has.window;
}

pub received_stays : (seat : Identity) (facts now : List Fact) (r : Reception) → casts_in now ≡ casts_in facts → HasReceivedAll seat facts r → HasReceivedAll seat now r
received_stays seat facts now r casts has = record {
  senders = has.senders;
  waits = λ i b at other. subst (λ (cs : List CastFields). HoldsWhatWaits (singles_among cs) i b) (sym casts) (has.waits i b at other);
  taken_are = λ i b at other. has.taken_are i b at other ∙ ap (λ (cs : List CastFields). expanded_count cs i) (sym casts);
  windows = has.windows;
  times = λ i lt other. record {
    senders = (has.times i lt other).senders;
    time = (has.times i lt other).time ∙ ap (λ (cs : List CastFields). expanded_time seat.group.size cs i (expanded_count cs i)) (sym casts);
  };
  stacks = has.stacks;
  spares = has.spares;
}
