use Rattle.std.proofs.Common.{◌≡◌, ◌∙◌, ◌+◌, ℕ, List, ap, arith, refl, set, subst, sym}
use Rattle.cb_frames.proofs.Carried.{burst_ends}
use Rattle.cb_delay.specs.declared.message.Event.{Event}
use Rattle.cb_delay.specs.declared.message.Event.TheVariants.{Deliver}
use Rattle.cb_member.specs.Passing.{carried_at}
use Rattle.cb_member.proofs.Bursting.{SoFar, all_deliveries, carried, none_so_far, one_delivery_more}
use Rattle.cb_member.proofs.arrival.course.deliveries_of.Goals as goal

pub loop-i-init : goal.loop-i-init
loop-i-init c = record { so_far = subst (λ (es : List Event). SoFar c.args.time.now c.args.burst.now 0 es) (sym c.in_ok-deliveries.ensures.items) (none_so_far c.args.time.now c.args.burst.now) }

pub overflow_cast-number : goal.overflow_cast-number
overflow_cast-number c = omega (arith, burst_ends c.args.burst.now c.requires.numbered.0, c.requires.numbered.1, c.loop-i-test.true, c.args.burst.now.payloads.ok.0)

pub overflow_add-number : goal.overflow_add-number
overflow_add-number c = omega (arith, burst_ends c.args.burst.now c.requires.numbered.0, c.requires.numbered.1, c.loop-i-test.true, c.args.burst.now.payloads.ok.0)

pub loop-i-preserved : goal.loop-i-preserved
loop-i-preserved c =
    let time = c.args.time.now in
    let burst = c.args.burst.now in
    let i = c.loop-i.i in
    let payload = c.index.result.now in
    let stamped : c.set.new.self ≡ set time burst.sender (burst.first + i) = c.set.ensures ∙ ap (λ (t : List ℕ). set t burst.sender (burst.first + i)) c.in_ok-stamp.ensures.equal in
    let made : Deliver (record { name = record { sender = burst.sender; number = burst.first + i }; time = c.set.new.self; payload = c.in_ok-another.field-0 }) ≡ Deliver (carried_at time (carried burst.sender (burst.first + i) payload)) =
    rw (stamped, c.in_ok-another.ensures) refl in
    record { so_far = one_delivery_more time burst i payload c.loop-i.deliveries.items _ _ (omega (arith, c.loop-i-test.true, burst.payloads.ok.0)) c.index.ensures made c.in_ok-push.ensures.items c.loop-i.invariant.so_far }

pub returns : goal.returns
returns c = all_deliveries c.args.time.now c.args.burst.now c.loop-i.i c.loop-i.deliveries.items (omega (arith, c.loop-i-test.false, c.args.burst.now.payloads.ok.0)) c.loop-i.invariant.so_far
