use Rattle.std.proofs.Common.{subst}
use Rattle.std.proofs.lemmas.Result.{err_from_is_err_and}
use Rattle.cb_history.specs.Load.{many_of}
use Rattle.cb_member.specs.CoreMember.{IsCore}
use Rattle.cb_member.proofs.CoreCalls.{has_cast}
use Rattle.cb_member.proofs.NeverFull.{burst_never_full}
use Rattle.cb_member.proofs.core_member.CoreMember.cast_burst.Goals as goal

pub returns-in_err-made-clause-no_limit : goal.returns-in_err-made-clause-no_limit
returns-in_err-made-clause-no_limit c =
    let exit = err_from_is_err_and c.from_residual.result c.from_residual.ensures.1 in
    burst_never_full (many_of c.args.payloads.now) c.args.self.now c.from_residual.result (subst IsCore c.in_err-made.ensures.same c.in_err-made.ensures.core) (rw (exit.1, exit.2) c.in_err-made.ensures.refused)

pub returns-in_err-made-clause-call : goal.returns-in_err-made-clause-call
returns-in_err-made-clause-call c =
    let exit = err_from_is_err_and c.from_residual.result c.from_residual.ensures.1 in
    rw (exit.1, exit.2) (record { answered = c.in_err-made.ensures.refused; goes = c.in_err-made.ensures.same })

pub returns-clause-answer : goal.returns-clause-answer
returns-clause-answer c = c.in_ok-made.ensures.casts.answer

pub returns-clause-frame : goal.returns-clause-frame
returns-clause-frame c = rw c.frame.ensures c.in_ok-made.ensures.casts.frame

pub returns-clause-joins : goal.returns-clause-joins
returns-clause-joins c = c.in_ok-made.ensures.casts.joins

pub returns-clause-call : goal.returns-clause-call
returns-clause-call c = record {
  answered = has_cast _ (many_of c.args.payloads.now) c.args.self.now _ c.args.events.now.items _ (c.in_ok-made.made, c.in_ok-made.entry) c.frame.result c.in_ok-made.ensures.casts c.frame.ensures;
  goes = c.in_ok-made.ensures.casts.goes_on;
}
