use Rattle.cb_causality.proofs.StampedGroups.{new_stamped}
use Rattle.cb_causality.proofs.stamped.StampedGroup.new.Goals as goal

pub invariant_of-result : goal.invariant_of-result
invariant_of-result c = rw c.in_ok-lists.ensures (new_stamped c.args.size c.requires)
