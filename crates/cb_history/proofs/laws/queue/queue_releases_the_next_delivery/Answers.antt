use Rattle.cb_history.proofs.Queueing.{ready_is_ready, next_ready_is_next_delivery, none_ready_is_nothing_next, next_delivery_is_first, first_is_next_delivery, release_is_delivery}
use Rattle.cb_history.proofs.laws.queue.queue_releases_the_next_delivery.Goals as goal

pub returns-clause-ready : goal.returns-clause-ready
returns-clause-ready c = ready_is_ready

pub returns-clause-next : goal.returns-clause-next
returns-clause-next c = next_ready_is_next_delivery

pub returns-clause-none : goal.returns-clause-none
returns-clause-none c = none_ready_is_nothing_next

pub returns-clause-first : goal.returns-clause-first
returns-clause-first c = next_delivery_is_first

pub returns-clause-only : goal.returns-clause-only
returns-clause-only c = first_is_next_delivery

pub returns-clause-released : goal.returns-clause-released
returns-clause-released c = release_is_delivery
