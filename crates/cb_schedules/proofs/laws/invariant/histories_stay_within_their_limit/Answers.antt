use Rattle.cb_schedules.proofs.Within.{histories_stay_within, histories_are_legal}
use Rattle.cb_schedules.proofs.laws.invariant.histories_stay_within_their_limit.Goals as goal

pub returns-clause-within : goal.returns-clause-within
returns-clause-within c = histories_stay_within

pub returns-clause-legal : goal.returns-clause-legal
returns-clause-legal c = histories_are_legal
