use Rattle.cb_history.proofs.Taking.{own_facts_leave_waiting, cast_waits_for_its_turn, next_taken_can_be_held, holding_takes_one_more, all_taken_is_waiting}
use Rattle.cb_history.proofs.laws.waiting.casts_wait_for_their_turn.Goals as goal

pub returns-clause-own : goal.returns-clause-own
returns-clause-own c = own_facts_leave_waiting

pub returns-clause-came : goal.returns-clause-came
returns-clause-came c = cast_waits_for_its_turn

pub returns-clause-next : goal.returns-clause-next
returns-clause-next c = next_taken_can_be_held

pub returns-clause-one_more : goal.returns-clause-one_more
returns-clause-one_more c = holding_takes_one_more

pub returns-clause-all : goal.returns-clause-all
returns-clause-all c = all_taken_is_waiting
