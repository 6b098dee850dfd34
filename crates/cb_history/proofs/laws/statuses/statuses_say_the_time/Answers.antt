use Rattle.cb_history.proofs.Statuses.{last_status_with_one_more, status_says_the_time, new_status_is_a_new_time}
use Rattle.cb_history.proofs.laws.statuses.statuses_say_the_time.Goals as goal

pub returns-clause-last : goal.returns-clause-last
returns-clause-last c = last_status_with_one_more

pub returns-clause-says : goal.returns-clause-says
returns-clause-says c = status_says_the_time

pub returns-clause-new : goal.returns-clause-new
returns-clause-new c = new_status_is_a_new_time
