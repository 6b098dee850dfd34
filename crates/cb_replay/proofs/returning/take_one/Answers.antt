use Rattle.std.proofs.Common.{List, subst}
use Rattle.std.proofs.lemmas.Result.{err_from_is_err_and}
use Rattle.cb_delay.specs.declared.message.Event.{Event}
use Rattle.cb_history.specs.Facts.{entry_fields}
use Rattle.cb_replay.specs.Returning.{TakesOneMore}
use Rattle.cb_replay.proofs.returning.take_one.Goals as goal

pub returns-in_err-taken-clause-refused : goal.returns-in_err-taken-clause-refused
returns-in_err-taken-clause-refused c =
    let exit = err_from_is_err_and c.from_residual.result c.from_residual.ensures.1 in
    rw (exit.1, exit.2) c.in_err-taken.ensures.refused

pub returns-clause-taken : goal.returns-clause-taken
returns-clause-taken c =
    let added = c.take.new.events.items in
    (added, subst (λ (before : List Event). TakesOneMore c.args.returning c.in_ok-taken.taken before added (entry_fields c.args.entry.now)) c.requires c.in_ok-taken.ensures.taken)
