use Rattle.cb_history.proofs.Arrivals.{accepted_is_there, there_stays, casts_are_of_the_group, singles_are_of_the_group}
use Rattle.cb_history.proofs.laws.arrivals.accepted_casts_are_there.Goals as goal

pub returns-clause-accepted : goal.returns-clause-accepted
returns-clause-accepted c = accepted_is_there

pub returns-clause-stays : goal.returns-clause-stays
returns-clause-stays c = there_stays

pub returns-clause-group : goal.returns-clause-group
returns-clause-group c = casts_are_of_the_group

pub returns-clause-singles : goal.returns-clause-singles
returns-clause-singles c = singles_are_of_the_group
