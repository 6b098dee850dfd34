use Rattle.cb_history.proofs.InTime.{view_is_in_time, times_are_reached}
use Rattle.cb_history.proofs.Agreement.{times_agree}
use Rattle.cb_history.proofs.Times.{times_stay, own_casts_tell_the_view}
use Rattle.cb_history.proofs.laws.times.times_of_messages.Goals as goal

pub returns-clause-stay : goal.returns-clause-stay
returns-clause-stay c = times_stay

pub returns-clause-own : goal.returns-clause-own
returns-clause-own c = own_casts_tell_the_view

pub returns-clause-reached : goal.returns-clause-reached
returns-clause-reached c = times_are_reached

pub returns-clause-agree : goal.returns-clause-agree
returns-clause-agree c = times_agree

pub returns-clause-in_time : goal.returns-clause-in_time
returns-clause-in_time c = view_is_in_time
