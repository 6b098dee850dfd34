use Rattle.cb_history.proofs.Expanders.{new_expander_keeps_nothing, single_behind_is_next, single_tells_the_time, other_times_are_kept, kept_times_stay, order_changes_no_time}
use Rattle.cb_history.proofs.laws.expander.the_expander_tells_the_times.Goals as goal

pub returns-clause-new : goal.returns-clause-new
returns-clause-new c = new_expander_keeps_nothing

pub returns-clause-next : goal.returns-clause-next
returns-clause-next c = single_behind_is_next

pub returns-clause-tells : goal.returns-clause-tells
returns-clause-tells c = single_tells_the_time

pub returns-clause-others : goal.returns-clause-others
returns-clause-others c = other_times_are_kept

pub returns-clause-stay : goal.returns-clause-stay
returns-clause-stay c = kept_times_stay

pub returns-clause-order : goal.returns-clause-order
returns-clause-order c = order_changes_no_time
