use Rattle.cb_causality.specs.StampedMachine.{erased}
use Rattle.cb_causality.proofs.Stamps.{stamped_is_causal, times_tell_order, times_count_the_past, times_have_size, run_in_order}
use Rattle.cb_causality.proofs.laws.stamped_broadcast_is_causal.Goals as goal

pub returns-clause-causal : goal.returns-clause-causal
returns-clause-causal c = stamped_is_causal

pub returns-clause-order : goal.returns-clause-order
returns-clause-order c = times_tell_order

pub returns-clause-past : goal.returns-clause-past
returns-clause-past c = times_count_the_past

pub returns-clause-fields : goal.returns-clause-fields
returns-clause-fields c = times_have_size

pub returns-clause-in_order : goal.returns-clause-in_order
returns-clause-in_order c = λ size lists run. run_in_order size (erased lists) (stamped_is_causal size lists run)
