use Rattle.cb_schedules.specs.Headline.{Headline, IsCausalBroadcast}
use Rattle.cb_schedules.specs.RestartLaws.{OfWhatIsThere}
use Rattle.cb_schedules.proofs.Headlines.{each_schedule, headline_holds}
use Rattle.cb_schedules.proofs.RestartLaws.{each_run, of_what_is_left, is_causal_now}
use Rattle.cb_schedules.proofs.laws.restarts.causal_broadcast_with_restarts.Goals as goal

pub returns-clause-headline : goal.returns-clause-headline
returns-clause-headline c = of_what_is_left Headline (each_schedule Headline headline_holds)

pub returns-clause-causal : goal.returns-clause-causal
returns-clause-causal c = each_run (OfWhatIsThere IsCausalBroadcast) is_causal_now
