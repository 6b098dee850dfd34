use Rattle.cb_causality.specs.CausalMachine.{MayDeliver}
use Rattle.cb_causality.specs.Lists.{lists_in}
use Rattle.cb_causality.proofs.GroupLists.{found_says}
use Rattle.cb_causality.proofs.causal.CausalGroup.may_deliver.Goals as goal

pub returns : goal.returns
returns c =
    rw c.is_some.ensures
    (found_says (λ payload. payload.now) (MayDeliver (lists_in c.args.self.now) c.args.receiver c.args.name) c.deliverable.result
    (rw (c.as_slice.ensures.value, c.self.view_is) at c.deliverable.ensures.found)
    (rw (c.as_slice.ensures.value, c.self.view_is) at c.deliverable.ensures.missing))
