use Rattle.cb_causality.proofs.OneMessage.{own_field_is_number, one_name_one_payload, one_name_one_message}
use Rattle.cb_causality.proofs.laws.a_name_tells_its_message.Goals as goal

pub returns-clause-number : goal.returns-clause-number
returns-clause-number c = own_field_is_number

pub returns-clause-payload : goal.returns-clause-payload
returns-clause-payload c = one_name_one_payload

pub returns-clause-message : goal.returns-clause-message
returns-clause-message c = one_name_one_message
