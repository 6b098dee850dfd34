use Rattle.cb_delay.proofs.Deques.{list_of-deques, release_outside, front_first, front_none}
use Rattle.cb_delay.proofs.queue.DelayQueue.first_of.Goals as goal

pub returns-in_err-get-clause-none : goal.returns-in_err-get-clause-none
returns-in_err-get-clause-none c =
    let lists = rw c.deref.ensures.value at c.in_err-get.ensures.lookup in
    rw (c.from_residual.ensures, ← c.self.view_is)
    (release_outside c.self.inside.window c.self.inside.lists.items c.self.invariant.0 c.args.sender lists.3)

pub returns-clause-first : goal.returns-clause-first
returns-clause-first c =
    let at = rw c.deref.ensures.value at c.in_ok-get.ensures.lookup in
    let deques = c.self.inside.lists.items in
    let list = list_of-deques deques c.args.sender c.in_ok-get.field-0.now at.3.0 at.1 in
    rw (← c.self.view_is)
    (front_first c.self.inside.window deques c.self.invariant.0 c.args.sender c.in_ok-get.field-0.now list _ _ c.front.result
    c.front.ensures.variant.0 c.front.ensures.lookup)

pub returns-clause-none : goal.returns-clause-none
returns-clause-none c =
    let at = rw c.deref.ensures.value at c.in_ok-get.ensures.lookup in
    let deques = c.self.inside.lists.items in
    let list = list_of-deques deques c.args.sender c.in_ok-get.field-0.now at.3.0 at.1 in
    rw (← c.self.view_is)
    (front_none c.self.inside.window deques c.self.invariant.0 c.args.sender c.in_ok-get.field-0.now list c.front.result
    c.front.ensures.variant.1)
