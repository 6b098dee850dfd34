use Rattle.std.proofs.Common.{◌∙◌, ℕ, List, ap, arith, drop, length, refl, sym, subst}
use Rattle.std.specs.List.{All}
use Rattle.std.specs.Vec.{with_items}
use Rattle.std.proofs.lemmas.List.{with_items_is}
use Rattle.cb_frames.specs.Fields.{unit_fields}
use Rattle.cb_frames.proofs.Carried.{fields_numbered}
use Rattle.cb_delay.specs.declared.message.Event.{Event}
use Rattle.cb_stability.specs.Relays.{Relayed}
use Rattle.cb_member.specs.Knowledge.{HasTimeOf, LearnsAll, delivered_by}
use Rattle.cb_member.specs.Sending.{TrimsToStable}
use Rattle.cb_member.proofs.Arriving.{all_delivered, can_follow, have_times, is_delivered, relays_fit, since_then, time_fits_acks}
use Rattle.cb_member.proofs.TakingIn.{has_numbers}
use Rattle.cb_member.proofs.state.State.take_cast.Goals as goal

pub last-last-requires : goal.last-last-requires
last-last-requires c =
    let cast = unit_fields c.args.unit in
    fields_numbered c.args.unit (has_numbers cast c.args.self.now (can_follow cast c.args.course c.args.self.now c.requires.can))

pub relay-requires : goal.relay-requires
relay-requires c =
    let cast = unit_fields c.args.unit in
    let before = c.args.events.now.items in
    let after = c.go.new.events.items in
    let can = can_follow cast c.args.course c.args.self.now c.requires.can in
    let is = is_delivered can.facts cast c.args.self.now c.go.new.self before after c.go.ensures.takes can.legal can.keeps in
    let of = c.sender-sender.ensures in
    omega (arith, of, relays_fit can.facts cast c.args.self.now c.go.new.self before after is)

pub acknowledge-requires-clause-time : goal.acknowledge-requires-clause-time
acknowledge-requires-clause-time c =
    let cast = unit_fields c.args.unit in
    let before = c.args.events.now.items in
    let after = c.go.new.events.items in
    let can = can_follow cast c.args.course c.args.self.now c.requires.can in
    let is = is_delivered can.facts cast c.args.self.now c.go.new.self before after c.go.ensures.takes can.legal can.keeps in
    time_fits_acks can.facts cast c.args.self.now c.go.new.self before after is

pub acknowledge-requires-clause-senders : goal.acknowledge-requires-clause-senders
acknowledge-requires-clause-senders c =
    let cast = unit_fields c.args.unit in
    let before = c.args.events.now.items in
    let after = c.go.new.events.items in
    let can = can_follow cast c.args.course c.args.self.now c.requires.can in
    let is = is_delivered can.facts cast c.args.self.now c.go.new.self before after c.go.ensures.takes can.legal can.keeps in
    let new = since_then before after c.deref.result.now c.len-before.result c.deref.ensures.value (c.len-before.ensures ∙ c.args.events.now.ok.0) in
    let mid = c.go.new.self in
    let times = subst (λ (me : ℕ). All (HasTimeOf me mid.knowledge.acks.size) (delivered_by (drop (length before) after))) (sym c.me-me.ensures.me)
    (have_times can.facts cast c.args.self.now mid before after is) in
    subst (λ (es : List Event). All (HasTimeOf c.me-me.result mid.knowledge.acks.size) (delivered_by es)) (sym new) times

pub returns-clause-delivers : goal.returns-clause-delivers
returns-clause-delivers c =
    let cast = unit_fields c.args.unit in
    let before = c.args.events.now.items in
    let after = c.go.new.events.items in
    let mid = c.go.new.self in
    let new = since_then before after c.deref.result.now c.len-before.result c.deref.ensures.value (c.len-before.ensures ∙ c.args.events.now.ok.0) in
    let learns = subst (λ (me : ℕ). LearnsAll me mid.delivery.time (delivered_by (drop (length before) after)) mid.knowledge.acks c.acknowledge.new.self.acks) c.me-me.ensures.me
    (subst (λ (es : List Event). LearnsAll c.me-me.result mid.delivery.time (delivered_by es) mid.knowledge.acks c.acknowledge.new.self.acks) new c.acknowledge.ensures.acks) in
    let trims = subst (λ (me : ℕ). TrimsToStable me c.acknowledge.new.self.acks mid.sending.window c.trim.new.self.window) c.me-me.ensures.me c.trim.ensures.window in
    let relays = rw c.deref_mut.ensures.value at c.relay.ensures.relays in
    let later = c.relay.new.relays in
    let many = c.relay.ensures.as_many in
    let many_before = ap (λ (rs : List Relayed). length rs) c.deref_mut.ensures.value in
    record {
      seat = c.go.ensures.takes.takes_in.only.seat;
      delivers = λ facts are keeps. all_delivered facts cast c.args.self.now mid before after
          (is_delivered facts cast c.args.self.now mid before after c.go.ensures.takes are keeps)
          (record mid { knowledge = c.acknowledge.new.self; sending = c.trim.new.self; relays = with_items mid.relays later }) refl refl refl c.acknowledge.ensures.known learns trims c.trim.ensures.rest later (with_items_is mid.relays later (omega (arith, many, many_before, mid.relays.ok.0)))
          (relays cast (sym c.sender-sender.ensures) (sym c.first-first.ensures) (sym c.last-last.ensures) c.requires.frame);
    }
