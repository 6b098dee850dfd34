use Rattle.std.proofs.Common.{subst, sym, ◌∙◌}
use Rattle.std.proofs.lemmas.Result.{err_from_is_err_and}
use Rattle.cb_history.specs.declared.answer.ArriveRefusal.TheVariants as refusals
use Rattle.cb_member.specs.CoreMember.{IsCore}
use Rattle.cb_member.proofs.NeverFull.{arrival_never_full, same_refusal}
use Rattle.cb_member.proofs.core_member.CoreMember.receive_noted.Goals as goal

pub returns-in_err-taken-clause-no_limit : goal.returns-in_err-taken-clause-no_limit
returns-in_err-taken-clause-no_limit c full =
    let exit = err_from_is_err_and c.from_residual.result c.from_residual.ensures.1 in
    arrival_never_full c.args.self.now c.args.bytes.now c.in_err-taken.field-0.0 (subst IsCore c.in_err-taken.ensures.same c.in_err-taken.ensures.core) c.in_err-taken.ensures.refused
    (sym exit.2 ∙ same_refusal exit.0 refusals.HistoryFull (sym exit.1 ∙ full))

pub returns-clause-taken : goal.returns-clause-taken
returns-clause-taken c = rw c.received.ensures c.in_ok-taken.ensures.hears.taken_is
