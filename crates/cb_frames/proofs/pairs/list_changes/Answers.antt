use Rattle.std.proofs.Common.{◌+◌, ◌*◌, length, arith}
use Rattle.std.proofs.lemmas.Slice.{between_to_end}
use Rattle.std.proofs.lemmas.Result.{err_from_is_err_and}
use Rattle.cb_frames.specs.Parts.{pairs_but}
use Rattle.cb_frames.proofs.PairLoop.{reads_one, ends, is_done}
use Rattle.cb_frames.proofs.SaidPairs.{change_said, change_behind}
use Rattle.cb_frames.proofs.pairs.list_changes.Goals as goal

pub loop-init : goal.loop-init
loop-init c =
    let s = c.list_short_changes-least.ensures in
    let bytes = c.args.bytes.now in
    let rest = between_to_end bytes (2 * c.len-read.result) (length bytes) (omega arith) in
    record {
      few = s.least.0;
      turns = omega (arith, c.len-read.ensures);
      below = s.least.1;
      room = rw s.capacity c.requires.room;
      read = rw (rest, c.len-read.ensures) (record { so_far = s.read });
    }

pub loop-preserved : goal.loop-preserved
loop-preserved c =
    let i = c.loop.invariant in
    let d = c.in_ok-change.change in
    let index = c.in_ok-change.ensures.index in record {
      few = omega (arith, i.few, index.0, c.push_reserved.ensures.len);
      turns = omega (arith, i.turns, c.push_reserved.ensures.len);
      below = omega (arith, index.1);
      room = rw c.push_reserved.ensures.capacity i.room;
      read = rw c.push_reserved.ensures.items (reads_one (pairs_but c.args.own) c.args.count 0 c.args.bytes.now c.loop.changes.items c.loop.least c.loop.counter c.loop.rest.now c.in_ok-change.after.now d.field d.amount (d.field + 1) d c.loop-test.true c.in_ok-change.ensures.value (change_said c.args.own d) (change_behind c.args.own d.field d.amount) i.read);
    }

pub returns-in_err-change : goal.returns-in_err-change
returns-in_err-change c =
    let p = err_from_is_err_and c.from_residual.result c.from_residual.ensures.1 in
    rw (p.1, p.2) (ends (pairs_but c.args.own) c.args.count 0 c.args.bytes.now c.loop.changes.items c.loop.least c.loop.counter c.loop.rest.now _ c.loop-test.true c.in_err-change.ensures.value c.loop.invariant.read)

pub returns : goal.returns
returns c = is_done _ _ _ _ _ _ _ _ c.loop-test.false c.loop.invariant.read
