use Rattle.std.proofs.Common.{◌≡◌, ◌≤◌}
use Rattle.cb_links.specs.Counts.{MetAtMost, held}
use Rattle.cb_links.proofs.channel.ChannelOutletOutlet.send_all.Given as goal

-- what was met so far was counted, and nothing else; each frame was offered
abbrev pub invariant-loop-frame : goal.invariant-loop-frame
invariant-loop-frame g l =
    (l.fn.self.failures ≤ l.self.failures)
    × MetAtMost l.unsent.failures l.fn.self.failures l.self.failures
    × (l.unsent.offered ≡ held l.frame-index)
    × (l.unsent.failures ≡ 0 → l.self.failures ≡ l.fn.self.failures)
