use Rattle.std.proofs.Common.{◌≡◌, ◌<◌, List, length, refl}
use Rattle.cb_causality.specs.declared.event.CausalEvent.{CausalEvent}
use Rattle.cb_causality.specs.declared.event.CausalEvent.TheVariants.{Deliver}
use Rattle.cb_causality.specs.CausalMachine.{MayDeliver}
use Rattle.cb_causality.specs.Lists.{contents, lists_in}
use Rattle.cb_causality.proofs.CausalGroups.{delivery_causal}
use Rattle.cb_causality.proofs.GroupLists.{set_appends}
use Rattle.cb_causality.proofs.causal.CausalGroup.deliver.Goals as goal

pub returns-in_default-clause-refused : goal.returns-in_default-clause-refused
returns-in_default-clause-refused c = λ no. rw (c.as_slice.ensures.value, c.self.view_is) at (c.in_default.ensures.missing refl)

pub invariant_of-self-2 : goal.invariant_of-self-2
invariant_of-self-2 c =
    let lists : List (List CausalEvent) = contents c.self.inside.lists.items in
    let inside : c.args.receiver < length lists = rw c.self.view_is c.requires in
    let may : MayDeliver (lists_in lists) c.args.receiver c.args.name c.in-Some.payload.now = rw c.as_slice.ensures.value at c.in-Some.ensures.found in
    let same : c.in_ok-payload.payload ≡ c.in-Some.payload.now = c.in_ok-payload.ensures.cases in
    rw (c.in_ok-append.ensures.ok, same) (delivery_causal lists c.args.receiver c.args.name c.in-Some.payload.now inside c.self.invariant may)

pub returns-clause-delivered : goal.returns-clause-delivered
returns-clause-delivered c = λ done.
    let lists : List (List CausalEvent) = contents c.self.inside.lists.items in
    let inside : c.args.receiver < length lists = rw c.self.view_is c.requires in
    let may : MayDeliver (lists_in lists) c.args.receiver c.args.name c.in-Some.payload.now = rw c.as_slice.ensures.value at c.in-Some.ensures.found in
    let same : c.in_ok-payload.payload ≡ c.in-Some.payload.now = c.in_ok-payload.ensures.cases in
    rw (c.in_ok-append.ensures.ok, same, ← c.self.view_is)
    (c.in-Some.payload.now, may, set_appends lists c.args.receiver (Deliver c.args.name c.in-Some.payload.now) inside)
