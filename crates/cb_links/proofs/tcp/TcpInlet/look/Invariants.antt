use Rattle.std.proofs.Common.{◌≡◌}
use Rattle.cb_links.proofs.tcp.TcpInlet.look.Given as goal

-- all connections are there, and no failure was counted
abbrev pub invariant-loop-step : goal.invariant-loop-step
invariant-loop-step g l = (l.self.from.len ≡ l.count) × (l.self.failures ≡ l.fn.self.failures)
