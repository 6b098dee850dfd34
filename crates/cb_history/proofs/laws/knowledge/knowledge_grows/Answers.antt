use Rattle.cb_history.proofs.Acknowledged.{acknowledged_is_delivered}
use Rattle.cb_history.proofs.Rising.{status_is_known, status_is_acknowledged, own_status_tells_nothing, nothing_falls}
use Rattle.cb_history.proofs.RisingByCasts.{cast_is_known, cast_is_acknowledged, own_cast_tells_nothing, delivered_is_known}
use Rattle.cb_history.proofs.laws.knowledge.knowledge_grows.Goals as goal

pub returns-clause-known : goal.returns-clause-known
returns-clause-known c = status_is_known

pub returns-clause-acknowledged : goal.returns-clause-acknowledged
returns-clause-acknowledged c = status_is_acknowledged

pub returns-clause-own : goal.returns-clause-own
returns-clause-own c = own_status_tells_nothing

pub returns-clause-grows : goal.returns-clause-grows
returns-clause-grows c = nothing_falls

pub returns-clause-bound : goal.returns-clause-bound
returns-clause-bound c = acknowledged_is_delivered

pub returns-clause-cast_known : goal.returns-clause-cast_known
returns-clause-cast_known c = cast_is_known

pub returns-clause-cast_acknowledged : goal.returns-clause-cast_acknowledged
returns-clause-cast_acknowledged c = cast_is_acknowledged

pub returns-clause-own_cast : goal.returns-clause-own_cast
returns-clause-own_cast c = own_cast_tells_nothing

pub returns-clause-delivered : goal.returns-clause-delivered
returns-clause-delivered c = delivered_is_known
