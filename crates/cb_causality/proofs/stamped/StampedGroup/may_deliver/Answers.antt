use Rattle.cb_causality.specs.Lists.{lists_in}
use Rattle.cb_causality.specs.StampedGroup.{IsAllowedAs}
use Rattle.cb_causality.proofs.GroupLists.{found_says}
use Rattle.cb_causality.proofs.stamped.StampedGroup.may_deliver.Goals as goal

pub returns : goal.returns
returns c =
    rw c.is_some.ensures
    (found_says (λ message. message.now) (IsAllowedAs (lists_in c.args.self.now) c.args.receiver c.args.name) c.allowed.result
    (rw (c.as_slice.ensures.value, c.self.view_is) at c.allowed.ensures.found)
    (rw (c.as_slice.ensures.value, c.self.view_is) at c.allowed.ensures.missing))
