use Rattle.cb_schedules.proofs.HelpRoundLaws.{others_have_the_same, others_have_what_any_had, these_are_so_many}
use Rattle.cb_schedules.proofs.laws.help.a_silent_sender_is_not_needed.Goals as goal

pub returns-clause-same : goal.returns-clause-same
returns-clause-same c = others_have_the_same

pub returns-clause-had : goal.returns-clause-had
returns-clause-had c = others_have_what_any_had

pub returns-clause-many : goal.returns-clause-many
returns-clause-many c = these_are_so_many
