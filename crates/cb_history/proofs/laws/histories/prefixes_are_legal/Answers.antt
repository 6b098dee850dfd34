use Rattle.cb_history.proofs.Prefixes.{prefix_is_legal, prefix_of_facts_is_legal, last_fact_is_a_step}
use Rattle.cb_history.proofs.laws.histories.prefixes_are_legal.Goals as goal

pub returns-clause-entries : goal.returns-clause-entries
returns-clause-entries c = prefix_is_legal

pub returns-clause-facts : goal.returns-clause-facts
returns-clause-facts c = prefix_of_facts_is_legal

pub returns-clause-step : goal.returns-clause-step
returns-clause-step c = last_fact_is_a_step
