use Rattle.cb_history.proofs.Happening.{events_with_one_more, events_cast_the_own, own_cast_makes_ready}
use Rattle.cb_history.proofs.laws.events.events_with_one_more_fact.Goals as goal

pub returns-clause-grows : goal.returns-clause-grows
returns-clause-grows c = events_with_one_more

pub returns-clause-casts : goal.returns-clause-casts
returns-clause-casts c = events_cast_the_own

pub returns-clause-ready : goal.returns-clause-ready
returns-clause-ready c = own_cast_makes_ready
