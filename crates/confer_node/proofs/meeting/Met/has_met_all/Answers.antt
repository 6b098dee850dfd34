use Rattle.std.proofs.Common.{inl, inr, ◌∙◌}
use Rattle.confer_node.proofs.Heard.{heard_below}
use Rattle.confer_node.proofs.meeting.Met.has_met_all.Goals.{else-i-me-via-then-i-me+else-not-has_heard, else-i-me-via-else-i-me}
use Rattle.confer_node.proofs.meeting.Met.has_met_all.Goals as goal

pub loop-i-preserved : goal.loop-i-preserved
loop-i-preserved c =
    heard_below c.args.self.now.heard.items c.args.self.now.seat.me c.loop-i.i c.loop-i.invariant
    (elim c.else-i-me.branch [
      | else-i-me-via-then-i-me+else-not-has_heard w ↦ inr (w.has_heard.ensures.0 w.if-not-has_heard.false)
      | else-i-me-via-else-i-me w ↦ inl (w.if-i-me.false ∙ c.me.ensures.me)
    ])
