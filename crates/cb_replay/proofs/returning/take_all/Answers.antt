use Rattle.std.proofs.Common.{[], refl}
use Rattle.std.proofs.lemmas.Result.{err_from_is_err_and}
use Rattle.cb_replay.proofs.Returns.{all_taken, begun, one_further, refused_at}
use Rattle.cb_replay.proofs.returning.take_all.Goals as goal

pub loop-entry-init : goal.loop-entry-init
loop-entry-init c = (begun c.args.returning.core.seat c.args.entries.now c.args.returning refl c.requires, c.new-events.ensures.items)

pub returns-in_err-so_far : goal.returns-in_err-so_far
returns-in_err-so_far c =
    let exit = err_from_is_err_and c.from_residual.result c.from_residual.ensures.1 in
    rw (exit.1, exit.2) (refused_at c.args.returning.core.seat c.args.entries.now c.loop-entry.entry-index c.entry-item.result c.loop-entry.so_far c.in_err-so_far.field-0.0
    c.loop-entry-test.true c.entry-item.is c.loop-entry.invariant.0 c.in_err-so_far.ensures.refused)

pub loop-entry-preserved : goal.loop-entry-preserved
loop-entry-preserved c =
    let taken = c.in_ok-so_far.ensures.taken in (
      one_further c.args.returning.core.seat c.args.entries.now c.loop-entry.entry-index c.entry-item.result c.loop-entry.so_far c.in_ok-so_far.so_far [] taken.0
          c.loop-entry-test.true c.entry-item.is c.loop-entry.invariant.0 taken.1,
      c.in_ok-so_far.ensures.empty,
    )

pub returns : goal.returns
returns c = all_taken c.args.returning.core.seat c.args.entries.now c.loop-entry.entry-index c.loop-entry.so_far c.loop-entry-test.false c.loop-entry.invariant.0
