use Rattle.std.proofs.Common.{◌≡◌, ◌<◌, Some, ℕ, ap, ◌∙◌, arith}
use Rattle.std.proofs.lemmas.Bool.{lt-ltb}
use Rattle.cb_history.specs.Group.{Parameters}
use Rattle.cb_member.proofs.Reading.{time_at, time_long}
use Rattle.cb_member.proofs.state.State.delivered_of.Goals as goal

pub get-requires : goal.get-requires
get-requires c =
    let state = c.args.self.now in
    let long = time_long state.seat c.requires.facts state.delivery c.requires.keeps.delivered in
    let size : c.size.result ≡ state.seat.group.size = c.size.ensures.size ∙ ap (λ (g : Parameters). g.size) c.group.ensures.group in
    omega (arith, c.if-k-size.true, size, long)

pub returns-then-k-size : goal.returns-then-k-size
returns-then-k-size c facts are keeps =
    let state = c.args.self.now in
    let size : c.size.result ≡ state.seat.group.size = c.size.ensures.size ∙ ap (λ (g : Parameters). g.size) c.group.ensures.group in
    let within : c.args.k < state.seat.group.size = omega (arith, c.if-k-size.true, size) in
    rw (lt-ltb c.args.k state.seat.group.size within) (ap (λ (n : ℕ). Some n) (c.get.ensures.field ∙ time_at state.seat facts state.delivery c.args.k keeps.delivered within))
