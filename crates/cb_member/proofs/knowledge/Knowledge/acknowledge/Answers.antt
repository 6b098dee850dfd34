use Rattle.std.proofs.Common.{◌+◌, ◌<◌, ℕ, List, max, drop, ap, sym, subst, ◌∙◌, arith}
use Rattle.std.specs.List.{All}
use Rattle.std.proofs.lemmas.List.Elements.{All-head, All-tail}
use Rattle.cb_delay.specs.declared.message.Message.{Message}
use Rattle.cb_stability.specs.Known.{Learns, count}
use Rattle.cb_history.specs.Known.{greatest_of}
use Rattle.cb_member.specs.declared.knowledge.Knowledge.{Knowledge}
use Rattle.cb_member.specs.Knowledge.{HasTimeOf, delivered_by, reached_in, reported_in}
use Rattle.cb_member.proofs.Acknowledging.{LearnsOne, others_learn, own_learns, delivery_and_rest, cast_and_rest}
use Rattle.cb_member.proofs.knowledge.Knowledge.acknowledge.Goals.{in-Deliver, in_default}
use Rattle.cb_member.proofs.knowledge.Knowledge.acknowledge.Goals as goal

pub get-delivered-requires : goal.get-delivered-requires
get-delivered-requires c =
    let rest = delivered_by (drop (c.loop-event.event-index + 1) c.args.events.now) in
    let more = delivery_and_rest c.args.events.now c.loop-event.event-index c.event-item.result c.in-Deliver.message c.loop-event-test.true c.event-item.is c.in-Deliver.is in
    let own = HasTimeOf c.args.me c.args.self.now.acks.size in
    let has = All-head own c.in-Deliver.message rest (subst (All own) more c.loop-event.invariant.senders) in
    subst (λ (n : ℕ). c.in-Deliver.message.name.sender < n) (sym c.requires.time) has.sender

pub learn_time-requires-clause-of_group : goal.learn_time-requires-clause-of_group
learn_time-requires-clause-of_group c =
    let rest = delivered_by (drop (c.loop-event.event-index + 1) c.args.events.now) in
    let more = delivery_and_rest c.args.events.now c.loop-event.event-index c.event-item.result c.in-Deliver.message c.loop-event-test.true c.event-item.is c.in-Deliver.is in
    let own = HasTimeOf c.args.me c.args.self.now.acks.size in
    let has = All-head own c.in-Deliver.message rest (subst (All own) more c.loop-event.invariant.senders) in
    subst (λ (n : ℕ). c.in-Deliver.message.name.sender < n) (sym c.loop-event.invariant.of_size) has.sender

pub learn_time-requires-clause-of_time : goal.learn_time-requires-clause-of_time
learn_time-requires-clause-of_time c =
    let rest = delivered_by (drop (c.loop-event.event-index + 1) c.args.events.now) in
    let more = delivery_and_rest c.args.events.now c.loop-event.event-index c.event-item.result c.in-Deliver.message c.loop-event-test.true c.event-item.is c.in-Deliver.is in
    let own = HasTimeOf c.args.me c.args.self.now.acks.size in
    let has = All-head own c.in-Deliver.message rest (subst (All own) more c.loop-event.invariant.senders) in
    has.time ∙ sym c.loop-event.invariant.of_size

pub learn-requires-clause-from_group : goal.learn-requires-clause-from_group
learn-requires-clause-from_group c =
    let rest = delivered_by (drop (c.loop-event.event-index + 1) c.args.events.now) in
    let more = delivery_and_rest c.args.events.now c.loop-event.event-index c.event-item.result c.in-Deliver.message c.loop-event-test.true c.event-item.is c.in-Deliver.is in
    let own = HasTimeOf c.args.me c.args.self.now.acks.size in
    let has = All-head own c.in-Deliver.message rest (subst (All own) more c.loop-event.invariant.senders) in
    subst (λ (n : ℕ). c.in-Deliver.message.name.sender < n) (sym (c.learn_time.ensures.size ∙ c.loop-event.invariant.of_size)) has.sender

pub loop-event-preserved : goal.loop-event-preserved
loop-event-preserved c =
    let inv = c.loop-event.invariant in
    let me = c.args.me in
    let time = c.args.time.now in
    let was = c.loop-event.self.acks in
    let rest = delivered_by (drop (c.loop-event.event-index + 1) c.args.events.now) in
    let own = HasTimeOf me c.args.self.now.acks.size in
    elim c.match-event.branch [
      | in-Deliver w ↦
          let m = w.in-Deliver.message in
          let more = delivery_and_rest c.args.events.now c.loop-event.event-index c.event-item.result m c.loop-event-test.true c.event-item.is w.in-Deliver.is in
          let all = subst (All own) more inv.senders in
          let learnt : LearnsOne me time m was w.learn.new.self = record {
            between = w.learn_time.new.self;
            by_time = w.learn_time.ensures;
            own = subst (Learns w.learn_time.new.self w.learn.new.self me m.name.sender) w.get-delivered.ensures.field w.learn.ensures;
          } in
          record {
            known = ap (λ (a : Knowledge). a.known) w.self-is ∙ inv.known;
            of_size = ap (λ (a : Knowledge). a.acks.size) w.self-is ∙ w.learn.ensures.size ∙ w.learn_time.ensures.size ∙ inv.of_size;
            others = λ k i within other.
                ap (λ (a : Knowledge). max (count a.acks k i) (greatest_of (reported_in i rest k))) w.self-is
                ∙ others_learn me k i time m rest was w.learn.new.self learnt (omega (arith, within, inv.of_size)) other
                ∙ ap (λ (ms : List Message). max (count was k i) (greatest_of (reported_in i ms k))) (sym more) ∙ inv.others k i within other;
            own = λ i.
                ap (λ (a : Knowledge). max (count a.acks me i) (greatest_of (reached_in time rest i))) w.self-is
                ∙ own_learns me i time m rest was w.learn.new.self learnt (All-head own m rest all).other
                ∙ ap (λ (ms : List Message). max (count was me i) (greatest_of (reached_in time ms i))) (sym more) ∙ inv.own i;
            senders = All-tail own m rest all;
          }
      | in_default w ↦
          let more = cast_and_rest c.args.events.now c.loop-event.event-index c.event-item.result w.in_default.field-0 c.loop-event-test.true c.event-item.is w.in_default.is in
          record {
            known = ap (λ (a : Knowledge). a.known) w.self-is ∙ inv.known;
            of_size = ap (λ (a : Knowledge). a.acks.size) w.self-is ∙ inv.of_size;
            others = λ k i within other.
                ap (λ (a : Knowledge). max (count a.acks k i) (greatest_of (reported_in i rest k))) w.self-is
                ∙ ap (λ (ms : List Message). max (count was k i) (greatest_of (reported_in i ms k))) (sym more) ∙ inv.others k i within other;
            own = λ i.
                ap (λ (a : Knowledge). max (count a.acks me i) (greatest_of (reached_in time rest i))) w.self-is
                ∙ ap (λ (ms : List Message). max (count was me i) (greatest_of (reached_in time ms i))) (sym more) ∙ inv.own i;
            senders = subst (All own) more inv.senders;
          }
    ]
