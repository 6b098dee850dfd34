use Rattle.std.proofs.Common.{refl}
use Rattle.std.proofs.lemmas.Result.{err_from_is_err_and}
use Rattle.cb_replay.proofs.Returns.{all_taken, refused_at}
use Rattle.cb_handle_journal.proofs.Events.{all_events, begun_with, one_further_with}
use Rattle.cb_handle_journal.proofs.taking.take_all.Goals as goal

pub loop-entry-init : goal.loop-entry-init
loop-entry-init c = begun_with c.args.returning.core.seat c.args.entries.now c.args.returning c.args.events.now.items refl c.requires.none c.requires.events

pub returns-in_err-so_far-clause-taken : goal.returns-in_err-so_far-clause-taken
returns-in_err-so_far-clause-taken c =
    let exit = err_from_is_err_and c.from_residual.result c.from_residual.ensures.1 in
    rw (exit.1, exit.2) (refused_at c.args.returning.core.seat c.args.entries.now c.loop-entry.entry-index c.entry-item.result c.loop-entry.so_far c.in_err-so_far.field-0.0
    c.loop-entry-test.true c.entry-item.is c.loop-entry.invariant.taken c.in_err-so_far.ensures.refused)

pub loop-entry-preserved : goal.loop-entry-preserved
loop-entry-preserved c =
    one_further_with c.args.returning.core.seat c.args.entries.now c.loop-entry.entry-index c.entry-item.result c.loop-entry.so_far c.in_ok-so_far.so_far c.loop-entry.events.items c.take.new.events.items
    c.loop-entry-test.true c.entry-item.is c.loop-entry.invariant c.in_ok-so_far.ensures.taken

pub returns-clause-taken : goal.returns-clause-taken
returns-clause-taken c = all_taken c.args.returning.core.seat c.args.entries.now c.loop-entry.entry-index c.loop-entry.so_far c.loop-entry-test.false c.loop-entry.invariant.taken

pub returns-clause-events : goal.returns-clause-events
returns-clause-events c = all_events c.args.returning.core.seat c.args.entries.now c.loop-entry.entry-index c.loop-entry.so_far c.loop-entry.events.items c.loop-entry-test.false c.loop-entry.invariant
