use Rattle.cb_history.proofs.Delivering.{readiness_is_the_delay_rule, rule_of_times, raising_counts_the_delivery, view_meets_the_rule, view_is_of_members}
use Rattle.cb_history.proofs.laws.deliveries.readiness_is_the_delay_rule.Goals as goal

pub returns-clause-rule : goal.returns-clause-rule
returns-clause-rule c = readiness_is_the_delay_rule

pub returns-clause-times : goal.returns-clause-times
returns-clause-times c = rule_of_times

pub returns-clause-views : goal.returns-clause-views
returns-clause-views c = view_meets_the_rule

pub returns-clause-members : goal.returns-clause-members
returns-clause-members c = view_is_of_members

pub returns-clause-raises : goal.returns-clause-raises
returns-clause-raises c = raising_counts_the_delivery
