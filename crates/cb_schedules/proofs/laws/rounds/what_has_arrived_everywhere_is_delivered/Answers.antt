use Rattle.cb_schedules.proofs.RoundLaws.{arrived_everywhere_is_delivered}
use Rattle.cb_schedules.proofs.laws.rounds.what_has_arrived_everywhere_is_delivered.Goals as goal

pub returns : goal.returns
returns c = arrived_everywhere_is_delivered
