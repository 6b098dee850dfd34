use Rattle.std.proofs.Common.{◌<◌, List, length, refl}
use Rattle.cb_delay.specs.declared.message.Event.{Event}
use Rattle.cb_delay.specs.declared.message.Event.TheVariants.{Deliver}
use Rattle.cb_causality.specs.Lists.{contents, lists_in}
use Rattle.cb_causality.specs.StampedGroup.{IsAllowedAs}
use Rattle.cb_causality.proofs.GroupLists.{set_appends}
use Rattle.cb_causality.proofs.StampedGroups.{delivery_group}
use Rattle.cb_causality.proofs.stamped.StampedGroup.deliver.Goals as goal

pub returns-in_default-clause-refused : goal.returns-in_default-clause-refused
returns-in_default-clause-refused c = λ no. rw (c.as_slice.ensures.value, c.self.view_is) at (c.in_default.ensures.missing refl)

pub invariant_of-self-2 : goal.invariant_of-self-2
invariant_of-self-2 c =
    let lists : List (List Event) = contents c.self.inside.lists.items in
    let inside : c.args.receiver < length lists = rw c.self.view_is c.requires in
    let may : IsAllowedAs (lists_in lists) c.args.receiver c.args.name c.in-Some.message.now = rw c.as_slice.ensures.value at c.in-Some.ensures.found in
    rw (c.in_ok-append.ensures.ok, c.in_ok-copy.ensures) (delivery_group lists c.args.receiver c.in-Some.message.now inside c.self.invariant may.1)

pub returns-clause-delivered : goal.returns-clause-delivered
returns-clause-delivered c = λ done.
    let lists : List (List Event) = contents c.self.inside.lists.items in
    let inside : c.args.receiver < length lists = rw c.self.view_is c.requires in
    let may : IsAllowedAs (lists_in lists) c.args.receiver c.args.name c.in-Some.message.now = rw c.as_slice.ensures.value at c.in-Some.ensures.found in
    rw (c.in_ok-append.ensures.ok, c.in_ok-copy.ensures, ← c.self.view_is)
    (c.in-Some.message.now, may, set_appends lists c.args.receiver (Deliver c.in-Some.message.now) inside)
