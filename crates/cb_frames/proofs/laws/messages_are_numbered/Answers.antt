use Rattle.cb_frames.proofs.Carried.{first_is_number, carried_in_order, carried_up_to_the_last, carries_some, carries_no_more, carries_few}
use Rattle.cb_frames.proofs.laws.messages_are_numbered.Goals as goal

pub returns-clause-number : goal.returns-clause-number
returns-clause-number c = first_is_number

pub returns-clause-order : goal.returns-clause-order
returns-clause-order c = carried_in_order

pub returns-clause-last : goal.returns-clause-last
returns-clause-last c = carried_up_to_the_last

pub returns-clause-some : goal.returns-clause-some
returns-clause-some c = carries_some

pub returns-clause-alone : goal.returns-clause-alone
returns-clause-alone c = carries_no_more

pub returns-clause-few : goal.returns-clause-few
returns-clause-few c = carries_few
