use Rattle.std.proofs.Common.{ℕ, Option, Some, refl, sym, subst}
use Rattle.std.specs.Prelude.{IfSome}
use Rattle.cb_delay.specs.Queue.{IsSmallestReady}
use Rattle.cb_member.specs.Foretelling.{HasNextOf, IsNextHeld}
use Rattle.cb_member.proofs.ToldAhead.{is_member, is_not_none, it_may_go}
use Rattle.cb_member.proofs.foretelling.next_held.Goals as goal

pub next_of-requires-clause-sender : goal.next_of-requires-clause-sender
next_of-requires-clause-sender c =
    let queue = c.args.queue.now in
    let now = c.args.now.now in
    let smallest = subst (λ (s : Option ℕ). IfSome s (IsSmallestReady queue now)) c.in-Some.is c.requires.smallest in
    is_member queue now c.in-Some.sender c.window-window.ensures.queue smallest

pub unreachable-requires : goal.unreachable-requires
unreachable-requires c =
    let queue = c.args.queue.now in
    let now = c.args.now.now in
    let smallest = subst (λ (s : Option ℕ). IfSome s (IsSmallestReady queue now)) c.in-Some.is c.requires.smallest in
    is_not_none queue now c.in-Some.sender c.window-window.ensures.queue smallest c.in_default-next_of.ensures.none

pub returns-clause-some : goal.returns-clause-some
returns-clause-some c =
    let queue = c.args.queue.now in
    let now = c.args.now.now in
    let smallest = subst (λ (s : Option ℕ). IfSome s (IsSmallestReady queue now)) c.in-Some.is c.requires.smallest in
    let goes = it_may_go queue now c.in-Some.sender c.window-window.ensures.queue smallest c.in-Some-next_of.message.now c.in-Some-next_of.ensures.some in
    subst (λ (s : Option ℕ). IfSome s (HasNextOf queue now (Some c.in_ok-copy.field-0))) (sym c.in-Some.is)
    (c.in_ok-copy.field-0, refl, subst (IsNextHeld queue now c.in-Some.sender) (sym c.in_ok-copy.ensures) goes)
