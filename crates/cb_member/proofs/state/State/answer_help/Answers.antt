use Rattle.std.proofs.Common.{inl}
use Rattle.std.proofs.lemmas.Result.{err_from_is_err_and}
use Rattle.cb_member.proofs.state.State.answer_help.Goals as goal

pub returns-in_err-judge : goal.returns-in_err-judge
returns-in_err-judge c =
    let exit = err_from_is_err_and c.from_residual.result c.from_residual.ensures.1 in
    rw (exit.1, exit.2) (inl (λ facts are keeps limit entries. c.in_err-judge.ensures facts limit entries))

pub returns : goal.returns
returns c facts are keeps limit entries = rw (c.in_ok-out.ensures facts are keeps) (c.in_ok-judge.ensures.answers facts limit entries)
