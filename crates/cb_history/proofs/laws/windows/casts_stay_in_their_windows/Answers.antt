use Rattle.cb_history.proofs.Windows.{casts_are_near, own_casts_are_near_stable}
use Rattle.cb_history.proofs.laws.windows.casts_stay_in_their_windows.Goals as goal

pub returns-clause-there : goal.returns-clause-there
returns-clause-there c = casts_are_near

pub returns-clause-own : goal.returns-clause-own
returns-clause-own c = own_casts_are_near_stable
