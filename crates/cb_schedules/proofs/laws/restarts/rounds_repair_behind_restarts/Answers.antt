use Rattle.cb_schedules.proofs.CatchingUp.{journaled_rounds_deliver, then_all_with_journals_have_the_same, then_nothing_is_missing_with_journals, journaled_rounds_make_stable, journaled_rounds_tell_what_is_stable}
use Rattle.cb_schedules.proofs.laws.restarts.rounds_repair_behind_restarts.Goals as goal

pub returns-clause-delivered : goal.returns-clause-delivered
returns-clause-delivered c = journaled_rounds_deliver

pub returns-clause-same : goal.returns-clause-same
returns-clause-same c = then_all_with_journals_have_the_same

pub returns-clause-missing : goal.returns-clause-missing
returns-clause-missing c = then_nothing_is_missing_with_journals

pub returns-clause-stable : goal.returns-clause-stable
returns-clause-stable c = journaled_rounds_make_stable

pub returns-clause-known : goal.returns-clause-known
returns-clause-known c = journaled_rounds_tell_what_is_stable
