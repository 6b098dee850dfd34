use Rattle.cb_schedules.specs.SentLaws.{CastsThereAreOwn, EventsHaveTimesFromBytes, NothingReadyIsLeftAnywhere}
use Rattle.cb_schedules.proofs.Courses.{runs_are_consistent}
use Rattle.cb_schedules.proofs.Headlines.{each_schedule, casts_there_are_own, times_from_bytes}
use Rattle.cb_schedules.proofs.laws.invariant.runs_are_consistent.Goals as goal

pub returns-clause-invariant : goal.returns-clause-invariant
returns-clause-invariant c = runs_are_consistent

pub returns-clause-casts : goal.returns-clause-casts
returns-clause-casts c = each_schedule CastsThereAreOwn casts_there_are_own

pub returns-clause-times : goal.returns-clause-times
returns-clause-times c = each_schedule EventsHaveTimesFromBytes times_from_bytes

pub returns-clause-ready : goal.returns-clause-ready
returns-clause-ready c = each_schedule NothingReadyIsLeftAnywhere (λ setting s inv. inv.together.settled)
