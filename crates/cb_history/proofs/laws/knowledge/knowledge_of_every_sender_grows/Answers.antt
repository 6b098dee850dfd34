use Rattle.cb_history.proofs.Rising.{status_is_acknowledged_of, own_status_acknowledges_nothing}
use Rattle.cb_history.proofs.RisingByCasts.{cast_is_acknowledged_of, own_cast_acknowledges_nothing}
use Rattle.cb_history.proofs.EverySender.{nothing_falls_of, stable_of_me, stable_is_delivered}
use Rattle.cb_history.proofs.laws.knowledge.knowledge_of_every_sender_grows.Goals as goal

pub returns-clause-acknowledged : goal.returns-clause-acknowledged
returns-clause-acknowledged c = status_is_acknowledged_of

pub returns-clause-cast_acknowledged : goal.returns-clause-cast_acknowledged
returns-clause-cast_acknowledged c = cast_is_acknowledged_of

pub returns-clause-own_cast : goal.returns-clause-own_cast
returns-clause-own_cast c = own_cast_acknowledges_nothing

pub returns-clause-own_status : goal.returns-clause-own_status
returns-clause-own_status c = own_status_acknowledges_nothing

pub returns-clause-grows : goal.returns-clause-grows
returns-clause-grows c = nothing_falls_of

pub returns-clause-stable : goal.returns-clause-stable
returns-clause-stable c = stable_of_me

pub returns-clause-bound : goal.returns-clause-bound
returns-clause-bound c = stable_is_delivered
