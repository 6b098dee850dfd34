use Rattle.cb_history.proofs.Names.{names_stand_once, own_casts_are_numbered, own_messages_are_own, view_is_in_order, view_holds_the_first, view_is_of_casts, view_is_as_cast}
use Rattle.cb_history.proofs.laws.names.names_and_order.Goals as goal

pub returns-clause-once : goal.returns-clause-once
returns-clause-once c = names_stand_once

pub returns-clause-numbered : goal.returns-clause-numbered
returns-clause-numbered c = own_casts_are_numbered

pub returns-clause-own : goal.returns-clause-own
returns-clause-own c = own_messages_are_own

pub returns-clause-order : goal.returns-clause-order
returns-clause-order c = view_is_in_order

pub returns-clause-there : goal.returns-clause-there
returns-clause-there c = view_is_of_casts

pub returns-clause-first : goal.returns-clause-first
returns-clause-first c = view_holds_the_first

pub returns-clause-payloads : goal.returns-clause-payloads
returns-clause-payloads c = view_is_as_cast
