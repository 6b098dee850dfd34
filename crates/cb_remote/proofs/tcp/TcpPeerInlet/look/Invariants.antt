use Rattle.std.proofs.Common.{◌≡◌}
use Rattle.cb_remote.proofs.tcp.TcpPeerInlet.look.Given as goal

-- no failure was counted
abbrev pub invariant-loop-step : goal.invariant-loop-step
invariant-loop-step g l = l.self.failures ≡ l.fn.self.failures
