use Rattle.cb_history.proofs.Gaps.{missing_is_exact, ranges_of_missing}
use Rattle.cb_history.proofs.GapsLater.{missing_stays, missing_comes}
use Rattle.cb_history.proofs.laws.gaps.missing_numbers.Goals as goal

pub returns-clause-exact : goal.returns-clause-exact
returns-clause-exact c = missing_is_exact

pub returns-clause-stays : goal.returns-clause-stays
returns-clause-stays c = missing_stays

pub returns-clause-comes : goal.returns-clause-comes
returns-clause-comes c = missing_comes

pub returns-clause-ranges : goal.returns-clause-ranges
returns-clause-ranges c = ranges_of_missing
