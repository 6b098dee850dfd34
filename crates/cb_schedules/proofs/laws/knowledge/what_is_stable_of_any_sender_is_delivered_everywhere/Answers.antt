use Rattle.cb_schedules.specs.SentLaws.{AcknowledgedOfIsDeliveredThere, StableOfIsDeliveredEverywhere, StableOfStandsInEvents}
use Rattle.cb_schedules.proofs.Headlines.{each_schedule, acknowledged_of_is_delivered_there, stable_of_is_delivered_everywhere, stable_of_stands_in_events}
use Rattle.cb_schedules.proofs.laws.knowledge.what_is_stable_of_any_sender_is_delivered_everywhere.Goals as goal

pub returns-clause-acknowledged : goal.returns-clause-acknowledged
returns-clause-acknowledged c = each_schedule AcknowledgedOfIsDeliveredThere acknowledged_of_is_delivered_there

pub returns-clause-stable : goal.returns-clause-stable
returns-clause-stable c = each_schedule StableOfIsDeliveredEverywhere stable_of_is_delivered_everywhere

pub returns-clause-events : goal.returns-clause-events
returns-clause-events c = each_schedule StableOfStandsInEvents stable_of_stands_in_events
