use Rattle.cb_history.proofs.Views.{view_with_one_more, nothing_ready_is_left, next_is_the_only_candidate}
use Rattle.cb_history.proofs.Walks.{view_only_grows}
use Rattle.cb_history.proofs.laws.view.view_with_one_more_fact.Goals as goal

pub returns-clause-grows : goal.returns-clause-grows
returns-clause-grows c = view_with_one_more

pub returns-clause-drained : goal.returns-clause-drained
returns-clause-drained c = nothing_ready_is_left

pub returns-clause-candidate : goal.returns-clause-candidate
returns-clause-candidate c = next_is_the_only_candidate

pub returns-clause-stays : goal.returns-clause-stays
returns-clause-stays c = view_only_grows
