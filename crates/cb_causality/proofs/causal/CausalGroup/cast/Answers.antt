use Rattle.std.proofs.Common.{◌<◌, length}
use Rattle.cb_causality.specs.declared.event.CausalEvent.TheVariants.{Cast}
use Rattle.cb_causality.proofs.GroupLists.{set_appends}
use Rattle.cb_causality.proofs.CausalGroups.{cast_causal}
use Rattle.cb_causality.proofs.causal.CausalGroup.cast.Goals as goal
use Rattle.cb_causality.specs.Lists.{contents, lists_in}
use Rattle.cb_causality.specs.Events.{next_name}

pub invariant_of-self-2 : goal.invariant_of-self-2
invariant_of-self-2 c =
    let inside : c.args.member < length (contents c.self.inside.lists.items) = rw c.self.view_is c.requires in
    let name : _ = c.name_after-name.ensures in
    let list : _ = c.list_of-list.ensures in
    rw (c.in_ok-append.ensures.ok, name, list, c.as_slice.ensures.value)
    (cast_causal (contents c.self.inside.lists.items) c.args.member c.args.payload c.self.invariant inside)

pub returns-clause-cast : goal.returns-clause-cast
returns-clause-cast c =
    let inside : c.args.member < length (contents c.self.inside.lists.items) = rw c.self.view_is c.requires in
    let name : _ = c.name_after-name.ensures in
    let list : _ = c.list_of-list.ensures in
    rw (c.in_ok-append.ensures.ok, name, list, c.as_slice.ensures.value, ← c.self.view_is)
    (set_appends (contents c.self.inside.lists.items) c.args.member
    (Cast (next_name c.args.member (lists_in (contents c.self.inside.lists.items) c.args.member)) c.args.payload) inside)
