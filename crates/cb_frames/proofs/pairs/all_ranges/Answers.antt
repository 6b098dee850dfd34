use Rattle.std.proofs.Common.{◌+◌, ◌-◌, arith, rules}
use Rattle.std.proofs.lemmas.Result.{err_from_is_err_and}
use Rattle.cb_frames.specs.Fault.{range_pairs}
use Rattle.cb_frames.proofs.PairLoop.{starts, reads_one, ends, is_done}
use Rattle.cb_frames.proofs.SaidPairs.{range_said}
use Rattle.cb_frames.proofs.pairs.all_ranges.Goals as goal

pub loop-init : goal.loop-init
loop-init c = record {
  room = search rules;
  below = omega arith;
  read = rw c.new-ranges.ensures (starts range_pairs c.args.count 1 c.args.bytes.now);
}

pub loop-preserved : goal.loop-preserved
loop-preserved c =
    let i = c.loop.invariant in
    let r = c.in_ok-range.range in
    let within = c.in_ok-range.ensures.within in
    let said = range_said r within.0 in record {
      room = omega (arith, i.room, c.push.ensures.len);
      below = omega (arith, within.1);
      read = rw (c.push.ensures.items, c.from-least.ensures) (reads_one range_pairs c.args.count 1 c.args.bytes.now c.loop.ranges.items c.loop.least c.loop.counter c.loop.rest.now c.in_ok-range.after.now r.first (r.last - r.first) (r.last + 2) r c.loop-test.true c.in_ok-range.ensures.value said.0 said.1 i.read);
    }

pub returns-in_err-range : goal.returns-in_err-range
returns-in_err-range c =
    let p = err_from_is_err_and c.from_residual.result c.from_residual.ensures.1 in
    rw (p.1, p.2) (ends range_pairs c.args.count 1 c.args.bytes.now c.loop.ranges.items c.loop.least c.loop.counter c.loop.rest.now _ c.loop-test.true c.in_err-range.ensures.value c.loop.invariant.read)

pub returns : goal.returns
returns c = is_done _ _ _ _ _ _ _ _ c.loop-test.false c.loop.invariant.read
