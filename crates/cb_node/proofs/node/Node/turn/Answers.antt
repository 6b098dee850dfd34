use Rattle.std.proofs.Common.{ℕ, sym, subst, arith}
use Rattle.std.proofs.Common.{◌≤◌}
use Rattle.cb_history.specs.State.{events_in}
use Rattle.cb_node.specs.Turning.{HasTurned, between}
use Rattle.cb_node.proofs.Turns.{turned}
use Rattle.cb_node.proofs.node.Node.turn.Goals as goal

pub returns-in_err-fault-clause-turned : goal.returns-in_err-fault-clause-turned
returns-in_err-fault-clause-turned g c =
    let old = c.args.self.now in
    let new = c.work-hindered.new.self in
    let to = c.shown-self.result in
    let rises : old.to ≤ to = omega (arith, old.kept_first, c.work-hindered.ensures.shown, c.shown-self.ensures.shown) in
    let whole = turned old.kept new.kept old.ends.counts.offered new.ends.counts.offered old.to to c.work-hindered.ensures.gone c.work-hindered.ensures.nothing_waits c.shown-shown.ensures.kept c.shown-self.ensures.kept old.kept_first rises c.shown-self.ensures.shown in
    subst (λ (n : ℕ). HasTurned old.kept new.kept old.ends.counts.offered new.ends.counts.offered old.to to (between n to (events_in new.kept.member))) (sym c.work-hindered.ensures.handed) whole

pub returns-clause-turned : goal.returns-clause-turned
returns-clause-turned g c =
    let old = c.args.self.now in
    let new = c.work-hindered.new.self in
    let to = c.shown-self.result in
    let rises : old.to ≤ to = omega (arith, old.kept_first, c.work-hindered.ensures.shown, c.shown-self.ensures.shown) in
    let whole = turned old.kept new.kept old.ends.counts.offered new.ends.counts.offered old.to to c.work-hindered.ensures.gone c.work-hindered.ensures.nothing_waits c.shown-shown.ensures.kept c.shown-self.ensures.kept old.kept_first rises c.shown-self.ensures.shown in
    subst (λ (n : ℕ). HasTurned old.kept new.kept old.ends.counts.offered new.ends.counts.offered old.to to (between n to (events_in new.kept.member))) (sym c.work-hindered.ensures.handed) whole
