use Rattle.cb_times.proofs.Deciding.{compares_somehow}
use Rattle.cb_times.proofs.laws.exactly_one_order_holds.Goals as goal

pub returns-clause-some : goal.returns-clause-some
returns-clause-some c = compares_somehow
