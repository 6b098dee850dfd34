use Rattle.cb_schedules.specs.Headline.{IsCausalBroadcast, DeliversClosedArrivals, TimesTellHappenedBefore, Headline}
use Rattle.cb_schedules.proofs.Headlines.{each_schedule, headline_holds}
use Rattle.cb_schedules.proofs.laws.headline.causal_broadcast_over_lossy_links.Goals as goal

pub returns-clause-causal : goal.returns-clause-causal
returns-clause-causal c = each_schedule IsCausalBroadcast (λ setting s inv. (headline_holds setting s inv).causal)

pub returns-clause-delivered : goal.returns-clause-delivered
returns-clause-delivered c = each_schedule DeliversClosedArrivals (λ setting s inv. (headline_holds setting s inv).delivered)

pub returns-clause-times : goal.returns-clause-times
returns-clause-times c = each_schedule TimesTellHappenedBefore (λ setting s inv. (headline_holds setting s inv).times)

pub returns-clause-headline : goal.returns-clause-headline
returns-clause-headline c = each_schedule Headline headline_holds
