use Rattle.std.proofs.Common.{subst}
use Rattle.std.proofs.lemmas.Result.{err_from_is_err_and}
use Rattle.cb_member.specs.CoreMember.{IsCore}
use Rattle.cb_member.proofs.NeverFull.{tick_never_full}
use Rattle.cb_member.proofs.core_member.CoreMember.tick_noted.Goals as goal

pub returns-in_err-told-clause-no_limit : goal.returns-in_err-told-clause-no_limit
returns-in_err-told-clause-no_limit c =
    let exit = err_from_is_err_and c.from_residual.result c.from_residual.ensures.1 in
    tick_never_full c.args.self.now c.from_residual.result (subst IsCore c.in_err-told.ensures.same c.in_err-told.ensures.core) (rw (exit.1, exit.2) c.in_err-told.ensures.refused)

pub returns-clause-done : goal.returns-clause-done
returns-clause-done c = rw c.ticked.ensures c.in_ok-told.ensures.ticks.done
