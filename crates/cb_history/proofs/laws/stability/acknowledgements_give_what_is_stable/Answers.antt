use Rattle.cb_history.proofs.EverySender.{least_known_is_stable_of}
use Rattle.cb_history.proofs.Keeping.{least_known_is_stable}
use Rattle.cb_history.proofs.laws.stability.acknowledgements_give_what_is_stable.Goals as goal

pub returns-clause-own : goal.returns-clause-own
returns-clause-own c = least_known_is_stable

pub returns-clause-every : goal.returns-clause-every
returns-clause-every c = least_known_is_stable_of
