use Rattle.cb_history.proofs.Runs.{expanded_are_there, next_is_not_there, run_is_expanded, expanded_up_to_the_count, delivered_is_expanded, others_expand_nothing, after_a_gap_nothing_expands, the_run_is_newly_expanded, greatest_of_the_run}
use Rattle.cb_history.proofs.laws.expansion.what_is_expanded.Goals as goal

pub returns-clause-there : goal.returns-clause-there
returns-clause-there c = expanded_are_there

pub returns-clause-next : goal.returns-clause-next
returns-clause-next c = next_is_not_there

pub returns-clause-run : goal.returns-clause-run
returns-clause-run c = run_is_expanded

pub returns-clause-exact : goal.returns-clause-exact
returns-clause-exact c = expanded_up_to_the_count

pub returns-clause-delivered : goal.returns-clause-delivered
returns-clause-delivered c = delivered_is_expanded

pub returns-clause-others : goal.returns-clause-others
returns-clause-others c = others_expand_nothing

pub returns-clause-gap : goal.returns-clause-gap
returns-clause-gap c = after_a_gap_nothing_expands

pub returns-clause-newly : goal.returns-clause-newly
returns-clause-newly c = the_run_is_newly_expanded

pub returns-clause-greatest : goal.returns-clause-greatest
returns-clause-greatest c = greatest_of_the_run
