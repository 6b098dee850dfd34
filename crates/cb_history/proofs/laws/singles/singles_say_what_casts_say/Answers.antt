use Rattle.cb_history.proofs.Singles.{singles_of_one_message, singles_of_singles, singles_are_as_many, singles_are_numbered, singles_are_single, singles_with_one_more, singles_are_the_same}
use Rattle.cb_history.proofs.laws.singles.singles_say_what_casts_say.Goals as goal

pub returns-clause-one : goal.returns-clause-one
returns-clause-one c = singles_of_one_message

pub returns-clause-again : goal.returns-clause-again
returns-clause-again c = singles_of_singles

pub returns-clause-many : goal.returns-clause-many
returns-clause-many c = singles_are_as_many

pub returns-clause-numbered : goal.returns-clause-numbered
returns-clause-numbered c = singles_are_numbered

pub returns-clause-single : goal.returns-clause-single
returns-clause-single c = singles_are_single

pub returns-clause-grows : goal.returns-clause-grows
returns-clause-grows c = singles_with_one_more

pub returns-clause-same : goal.returns-clause-same
returns-clause-same c = singles_are_the_same
