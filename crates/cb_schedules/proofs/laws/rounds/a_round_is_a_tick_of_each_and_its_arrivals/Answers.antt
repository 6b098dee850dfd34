use Rattle.cb_schedules.proofs.Once.{each_ticks_once, nothing_old_arrives}
use Rattle.cb_schedules.proofs.RoundLaws.{each_arrives_once, answers_put_nothing_out}
use Rattle.cb_schedules.proofs.laws.rounds.a_round_is_a_tick_of_each_and_its_arrivals.Goals as goal

pub returns-clause-ticks : goal.returns-clause-ticks
returns-clause-ticks c = each_ticks_once

pub returns-clause-arrives : goal.returns-clause-arrives
returns-clause-arrives c = each_arrives_once

pub returns-clause-old : goal.returns-clause-old
returns-clause-old c = nothing_old_arrives

pub returns-clause-ends : goal.returns-clause-ends
returns-clause-ends c = answers_put_nothing_out
