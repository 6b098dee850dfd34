use Rattle.std.proofs.Common.{ap, sym, ◌∙◌, arith}
use Rattle.cb_varint.specs.Reading.{number_at}
use Rattle.cb_varint.proofs.Fronts.{number_is_read, found_within, found_spelled, fault_is_there, fault_is_answered}
use Rattle.cb_varint.proofs.number.take.Goals as goal

pub returns-clause-within : goal.returns-clause-within
returns-clause-within c = found_within c.args.bytes.now c.number_at_front.result (λ i. omega (arith, c.type_inv.bytes i)) (sym c.number_at_front.ensures)

pub returns-clause-found : goal.returns-clause-found
returns-clause-found c = found_spelled c.args.bytes.now c.number_at_front.result (λ i. omega (arith, c.type_inv.bytes i)) (sym c.number_at_front.ensures)

pub returns-clause-only : goal.returns-clause-only
returns-clause-only c text rest n s e = c.number_at_front.ensures ∙ ap number_at e ∙ number_is_read text rest n s

pub returns-clause-fault : goal.returns-clause-fault
returns-clause-fault c fault = (λ e. fault_is_there c.args.bytes.now fault (λ i. omega (arith, c.type_inv.bytes i)) (sym c.number_at_front.ensures ∙ e), λ f. c.number_at_front.ensures ∙ fault_is_answered c.args.bytes.now fault f)
