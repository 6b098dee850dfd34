use Rattle.cb_history.proofs.Calls.{calls_keep_legal}
use Rattle.cb_history.proofs.laws.histories.calls_keep_histories_legal.Goals as goal

pub returns : goal.returns
returns c = calls_keep_legal
