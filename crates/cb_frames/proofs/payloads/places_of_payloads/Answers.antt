use Rattle.std.proofs.Common.{arith, refl}
use Rattle.std.proofs.lemmas.Result.{err_from_is_err_and}
use Rattle.cb_frames.proofs.PayloadLoop.{lies_within, reads_one, ends, is_done}
use Rattle.cb_frames.proofs.payloads.places_of_payloads.Goals as goal

pub next_payload-requires : goal.next_payload-requires
next_payload-requires c = c.loop.invariant.below

pub returns-in_err-payload-clause-payloads : goal.returns-in_err-payload-clause-payloads
returns-in_err-payload-clause-payloads c =
    let p = err_from_is_err_and c.from_residual.result c.from_residual.ensures.1 in
    rw (p.1, p.2) (ends c.args.count c.args.bytes.now c.loop.places.items c.loop.before c.loop.counter c.loop.rest.now _ c.loop-test.true c.in_err-payload.ensures.value c.loop.invariant.read)

pub overflow_sub-end : goal.overflow_sub-end
overflow_sub-end c =
    omega (arith, lies_within c.args.count c.args.bytes.now c.loop.places.items c.loop.before c.loop.counter c.loop.rest.now c.in_ok-payload.payload.now c.in_ok-payload.behind.now c.in_ok-payload.ensures.value c.loop.invariant.read)

pub overflow_sub-end-in-loop : goal.overflow_sub-end-in-loop
overflow_sub-end-in-loop c =
    omega (arith, lies_within c.args.count c.args.bytes.now c.loop.places.items c.loop.before c.loop.counter c.loop.rest.now c.in_ok-payload.payload.now c.in_ok-payload.behind.now c.in_ok-payload.ensures.value c.loop.invariant.read)

pub loop-preserved : goal.loop-preserved
loop-preserved c =
    let i = c.loop.invariant in record {
      room = omega (arith, i.room, c.push.ensures.len);
      below = c.in_ok-payload.ensures.short;
      read = rw c.push.ensures.items (reads_one c.args.count c.args.bytes.now c.loop.places.items c.loop.before c.loop.counter c.loop.rest.now c.in_ok-payload.payload.now c.in_ok-payload.behind.now _ c.loop-test.true c.in_ok-payload.ensures.value refl refl i.read);
    }

pub returns-clause-payloads : goal.returns-clause-payloads
returns-clause-payloads c = is_done c.args.count c.args.bytes.now c.loop.places.items c.loop.before c.loop.counter c.loop.rest.now c.loop-test.false c.loop.invariant.read
