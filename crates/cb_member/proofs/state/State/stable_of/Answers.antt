use Rattle.std.proofs.Common.{◌≡◌, ◌<◌, Some, ℕ, ap, subst, ◌∙◌}
use Rattle.std.proofs.lemmas.Bool.{lt-ltb}
use Rattle.cb_history.specs.Group.{Parameters}
use Rattle.cb_history.proofs.EverySender.{least_known_is_stable_of}
use Rattle.cb_member.proofs.state.State.stable_of.Goals as goal

pub returns-then-i-size : goal.returns-then-i-size
returns-then-i-size c facts are keeps =
    let seat = c.args.self.now.seat in
    let i = c.args.i in
    let size : c.size.result ≡ seat.group.size = c.size.ensures.size ∙ ap (λ (g : Parameters). g.size) c.group.ensures.group in
    let within = subst (λ (n : ℕ). i < n) size c.if-i-size.true in
    rw (lt-ltb i seat.group.size within)
    (ap (λ (n : ℕ). Some n) (least_known_is_stable_of seat facts c.args.self.now.knowledge.acks i c.stable.result within keeps.knows.acknowledged c.stable.ensures.stable c.stable.ensures.reached))
