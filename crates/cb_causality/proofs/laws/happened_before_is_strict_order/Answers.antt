use Rattle.cb_causality.proofs.Runs.{run_regular, regular_irreflexive, regular_transitive}
use Rattle.cb_causality.proofs.laws.happened_before_is_strict_order.Goals as goal

pub returns-clause-irreflexive : goal.returns-clause-irreflexive
returns-clause-irreflexive c = λ size lists run. regular_irreflexive lists (run_regular size lists run)

pub returns-clause-transitive : goal.returns-clause-transitive
returns-clause-transitive c = λ size lists run. regular_transitive lists (run_regular size lists run)

pub returns-clause-acyclic : goal.returns-clause-acyclic
returns-clause-acyclic c = λ size lists run. (run_regular size lists run).acyclic
