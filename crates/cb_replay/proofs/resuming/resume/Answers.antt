use Rattle.std.proofs.lemmas.Result.{err_from_is_err_and}
use Rattle.cb_replay.proofs.resuming.resume.Goals as goal

-- the search gives up over all that a member drops
pub returns-in_err-replay : goal.returns-in_err-replay
returns-in_err-replay c =
    let exit = err_from_is_err_and c.from_residual-in_err-replay.result c.from_residual-in_err-replay.ensures.1 in
    rw (exit.1, exit.2) c.in_ok-judge.ensures.ok
