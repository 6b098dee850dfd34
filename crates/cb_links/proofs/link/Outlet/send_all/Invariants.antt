use Rattle.std.proofs.Common.{◌≡◌, ◌≤◌}
use Rattle.cb_links.specs.Counts.{MetAtMost, held}
use Rattle.cb_links.proofs.link.Outlet.send_all.Given as goal

-- what was met so far was counted, and nothing else; each frame was offered
abbrev pub invariant-loop-frame : goal.invariant-loop-frame
invariant-loop-frame g l =
    (g.Self.Outlet.failed l.fn.self ≤ g.Self.Outlet.failed l.self)
    × MetAtMost l.unsent.failures (g.Self.Outlet.failed l.fn.self) (g.Self.Outlet.failed l.self)
    × (l.unsent.offered ≡ held l.frame-index)
    × (l.unsent.failures ≡ 0 → g.Self.Outlet.failed l.self ≡ g.Self.Outlet.failed l.fn.self)
