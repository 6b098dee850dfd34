use Rattle.std.proofs.Common.{◌≡◌, ◌≤◌}
use Rattle.std.specs.Prelude.{OnOk}
use Rattle.cb_node.specs.Kept.{KeepsUp}
use Rattle.cb_node.specs.Refusing.{HinderNone}
use Rattle.cb_node.specs.Turning.{HasGone}
use Rattle.cb_node.proofs.node.Node.listen.Given as goal

-- the frames so far
abbrev pub invariant-loop-frame : goal.invariant-loop-frame
invariant-loop-frame g l =
    HasGone l.fn.self.kept l.self.kept l.fn.self.ends.counts.offered l.self.ends.counts.offered
    × KeepsUp g.K.Keeper.has l.fn.self.keeper l.self.keeper l.fn.self.kept l.self.kept
    × (l.fn.self.kept.shown ≤ l.self.kept.shown)
    × (l.self.to ≡ l.fn.self.to)
    × OnOk l.hindered (HinderNone l.fn.self.kept.refused l.self.kept.refused)
