use Rattle.cb_causality.proofs.GroupLists.{lists_in_read}
use Rattle.cb_causality.proofs.lists.list_of.Goals as goal

pub returns : goal.returns
returns g c =
    let read : _ = lists_in_read c.args.lists.now c.args.at c.index-lists-at.result c.requires in
    let here : _ = c.index-lists-at.is in
    rw (read, ← here) c.as_slice.ensures.value
