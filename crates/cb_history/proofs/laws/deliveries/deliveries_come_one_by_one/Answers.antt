use Rattle.cb_history.proofs.Delivering.{nothing_is_next, next_is_smallest_ready, smallest_ready_is_next, views_are_on_the_way, delivery_leaves_on_the_way, drain_goes_on, drain_ends}
use Rattle.cb_history.proofs.laws.deliveries.deliveries_come_one_by_one.Goals as goal

pub returns-clause-nothing : goal.returns-clause-nothing
returns-clause-nothing c = nothing_is_next

pub returns-clause-next : goal.returns-clause-next
returns-clause-next c = next_is_smallest_ready

pub returns-clause-smallest : goal.returns-clause-smallest
returns-clause-smallest c = smallest_ready_is_next

pub returns-clause-views : goal.returns-clause-views
returns-clause-views c = views_are_on_the_way

pub returns-clause-on : goal.returns-clause-on
returns-clause-on c = delivery_leaves_on_the_way

pub returns-clause-goes_on : goal.returns-clause-goes_on
returns-clause-goes_on c = drain_goes_on

pub returns-clause-ends : goal.returns-clause-ends
returns-clause-ends c = drain_ends
