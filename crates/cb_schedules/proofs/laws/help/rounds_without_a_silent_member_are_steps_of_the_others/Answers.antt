use Rattle.cb_schedules.proofs.HelpSteps.{each_other_ticks_once, silent_does_nothing, help_rounds_cast_nothing, help_rounds_are_steps}
use Rattle.cb_schedules.proofs.laws.help.rounds_without_a_silent_member_are_steps_of_the_others.Goals as goal

pub returns-clause-ticks : goal.returns-clause-ticks
returns-clause-ticks c = each_other_ticks_once

pub returns-clause-silent : goal.returns-clause-silent
returns-clause-silent c = silent_does_nothing

pub returns-clause-casts : goal.returns-clause-casts
returns-clause-casts c = help_rounds_cast_nothing

pub returns-clause-steps : goal.returns-clause-steps
returns-clause-steps c = help_rounds_are_steps
