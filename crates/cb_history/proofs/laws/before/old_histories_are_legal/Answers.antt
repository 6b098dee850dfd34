use Rattle.cb_history.proofs.Before.{legal_before_is_legal, read_as_before, facts_as_before}
use Rattle.cb_history.proofs.laws.before.old_histories_are_legal.Goals as goal

pub returns-clause-still : goal.returns-clause-still
returns-clause-still c = legal_before_is_legal

pub returns-clause-read : goal.returns-clause-read
returns-clause-read c = read_as_before

pub returns-clause-facts : goal.returns-clause-facts
returns-clause-facts c = facts_as_before
