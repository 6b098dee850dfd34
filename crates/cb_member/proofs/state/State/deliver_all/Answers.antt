use Rattle.std.proofs.Common.{◌≡◌, ◌∙◌, ℕ, List, ap, arith, set, subst, sym}
use Rattle.cb_frames.specs.Carrying.{IsNumberedCast}
use Rattle.cb_frames.specs.Fields.{CastFields, first_number, last_number, unit_fields}
use Rattle.cb_frames.proofs.Carried.{fields_numbered}
use Rattle.cb_delay.specs.declared.message.Event.{Event}
use Rattle.cb_diffs.specs.Expansion.{IsGrown, IsNext, time_of}
use Rattle.cb_member.specs.Course.{TakesAndDelivers}
use Rattle.cb_member.specs.Passing.{IsInOrder, TakesBurst}
use Rattle.cb_member.specs.Taking.{Hears}
use Rattle.cb_member.proofs.BurstGoing.{goes_all, next_burst}
use Rattle.cb_member.proofs.TakingIn.{has_numbers, sender_is_counted, sender_is_heard_of}
use Rattle.cb_member.proofs.state.State.deliver_all.Goals as goal

pub last-last-requires : goal.last-last-requires
last-last-requires c = fields_numbered c.args.unit (has_numbers (unit_fields c.args.unit) c.args.self.now c.requires.all.can)

pub take_burst-requires-clause-numbered : goal.take_burst-requires-clause-numbered
take_burst-requires-clause-numbered c = subst IsNumberedCast (sym c.only_burst-burst.ensures) (has_numbers (unit_fields c.args.unit) c.args.self.now c.requires.all.can)

pub take_burst-requires-clause-last : goal.take_burst-requires-clause-last
take_burst-requires-clause-last c = c.last-last.ensures ∙ ap last_number (sym c.only_burst-burst.ensures)

pub take_burst-requires-clause-in_order : goal.take_burst-requires-clause-in_order
take_burst-requires-clause-in_order c = subst (λ (d : CastFields). IsInOrder d.sender (first_number d) c.args.self.now.reception) (sym c.only_burst-burst.ensures) c.requires.all.in_order

pub take_burst-requires-clause-next : goal.take_burst-requires-clause-next
take_burst-requires-clause-next c =
    subst (IsNext c.args.self.now.reception.expander) (sym c.only_burst-burst.ensures) (next_burst (unit_fields c.args.unit) c.args.self.now c.requires.all.can c.requires.all.in_order)

pub take_burst-requires-clause-grown : goal.take_burst-requires-clause-grown
take_burst-requires-clause-grown c =
    subst (λ (d : CastFields). IsGrown (time_of c.args.self.now.reception.expander d.sender) d c.args.time) (sym c.only_burst-burst.ensures) c.requires.all.grown

pub hear-requires : goal.hear-requires
hear-requires c =
    let of = c.sender-sender.ensures in
    omega (arith, of, sender_is_heard_of (unit_fields c.args.unit) c.args.self.now c.requires.all.can)

pub set-requires : goal.set-requires
set-requires c =
    let of = c.sender-sender.ensures in
    omega (arith, of, sender_is_counted (unit_fields c.args.unit) c.args.self.now c.requires.all.can)

pub returns-clause-takes : goal.returns-clause-takes
returns-clause-takes c =
    let unit = unit_fields c.args.unit in
    let old = c.args.self.now in
    let before = c.args.events.now.items in
    let takes = subst (λ (d : CastFields). TakesBurst d old.reception c.take_burst.new.self) c.only_burst-burst.ensures c.take_burst.ensures in
    let hears = subst (λ (i : ℕ). Hears i (last_number unit) old.knowledge c.hear.new.self) c.sender-sender.ensures
    (subst (λ (n : ℕ). Hears c.sender-sender.result n old.knowledge c.hear.new.self) c.last-last.ensures c.hear.ensures) in
    let counted : c.set.new.self ≡ set old.delivery.time unit.sender (last_number unit) =
    c.set.ensures ∙ ap (λ (i : ℕ). set old.delivery.time i c.last-last.result) c.sender-sender.ensures ∙ ap (set old.delivery.time unit.sender) c.last-last.ensures in
    let goes = goes_all unit c.args.time c.args.deliveries.items old c.requires.all c.take_burst.new.self c.hear.new.self takes hears before in
    subst (λ (time : List ℕ). TakesAndDelivers unit old (record old { delivery = record old.delivery { time = time }; reception = c.take_burst.new.self; knowledge = c.hear.new.self }) before c.join_events.new.events.items) (sym counted)
    (subst (λ (es : List Event). TakesAndDelivers unit old (record old { delivery = record old.delivery { time = set old.delivery.time unit.sender (last_number unit) }; reception = c.take_burst.new.self; knowledge = c.hear.new.self }) before es)
    (sym c.join_events.ensures.joins) goes)
