use Rattle.std.proofs.Common.{◌≡◌, ◌∙◌, ℕ, All, ap, subst, arith}
use Rattle.cb_history.specs.Group.{Parameters}
use Rattle.cb_member.specs.Relaying.{IsWithoutFrames}
use Rattle.cb_member.proofs.HandingOn.{none_relayed}
use Rattle.cb_member.proofs.relaying.no_relays.Goals as goal

pub returns : goal.returns
returns c =
    let group = c.group.ensures.group in
    let again = c.group-2.ensures.group in
    let size : c.size-size.result ≡ c.args.seat.group.size = c.size-size.ensures.size ∙ ap (λ (g : Parameters). g.size) group in
    let window : c.window-window.result ≡ c.args.seat.group.window = c.window-window.ensures ∙ ap (λ (g : Parameters). g.window) again in
    let kept = c.loop.invariant in
    none_relayed c.relays_keep_what_is_handed_on.ensures.nothing c.args.seat c.loop.relays.items
    (omega (arith, kept.many, c.loop.auto.counter-end, c.loop-test.false, size))
    (subst (λ (n : ℕ). All (IsWithoutFrames n) c.loop.relays.items) window kept.each)
