use Rattle.cb_causality.proofs.CausalGroups.{new_causal}
use Rattle.cb_causality.proofs.causal.CausalGroup.new.Goals as goal

pub invariant_of-result : goal.invariant_of-result
invariant_of-result c = rw c.in_ok-lists.ensures (new_causal c.args.size c.requires)
