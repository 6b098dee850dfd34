use Rattle.cb_schedules.specs.SentLaws.{AcknowledgedIsDeliveredThere, StableIsDeliveredEverywhere, StableStandsInEvents, SendersStayNear}
use Rattle.cb_schedules.proofs.Headlines.{each_schedule, acknowledged_is_delivered_there, stable_is_delivered_everywhere, stable_stands_in_events, senders_stay_near}
use Rattle.cb_schedules.proofs.laws.knowledge.what_is_stable_is_delivered_everywhere.Goals as goal

pub returns-clause-acknowledged : goal.returns-clause-acknowledged
returns-clause-acknowledged c = each_schedule AcknowledgedIsDeliveredThere acknowledged_is_delivered_there

pub returns-clause-stable : goal.returns-clause-stable
returns-clause-stable c = each_schedule StableIsDeliveredEverywhere stable_is_delivered_everywhere

pub returns-clause-events : goal.returns-clause-events
returns-clause-events c = each_schedule StableStandsInEvents stable_stands_in_events

pub returns-clause-near : goal.returns-clause-near
returns-clause-near c = each_schedule SendersStayNear senders_stay_near
