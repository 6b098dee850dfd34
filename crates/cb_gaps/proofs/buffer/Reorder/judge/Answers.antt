use Rattle.std.proofs.Common.{arith}
use Rattle.cb_gaps.proofs.Kept.{received_answer, all_lacking}
use Rattle.cb_gaps.proofs.buffer.Reorder.judge.Goals as goal

pub returns-in-Err : goal.returns-in-Err
returns-in-Err c =
    rw (← c.self.view_is)
    (received_answer c.self.inside.window c.self.inside.taken c.self.inside.kept.items c.self.invariant.0 c.args.delivered c.args.first c.args.last
    c.in-Err.received c.in-Err.ensures.received)

pub returns-then-saturating_sub-self : goal.returns-then-saturating_sub-self
returns-then-saturating_sub-self c =
    rw (← c.self.view_is) (
      all_lacking c.self.inside.window c.self.inside.taken c.self.inside.kept.items c.self.invariant.0 c.args.first c.args.last c.in-Ok._place
          c.in-Ok.ensures.place,
      omega (arith, c.if-saturating_sub-self.true, c.saturating_sub.ensures),
    )

pub returns-else-saturating_sub-self : goal.returns-else-saturating_sub-self
returns-else-saturating_sub-self c =
    rw (← c.self.view_is) (
      all_lacking c.self.inside.window c.self.inside.taken c.self.inside.kept.items c.self.invariant.0 c.args.first c.args.last c.in-Ok._place
          c.in-Ok.ensures.place,
      omega (arith, c.if-saturating_sub-self.false, c.saturating_sub.ensures),
    )
