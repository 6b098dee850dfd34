use Rattle.std.proofs.Common.{◌≡◌}
use Rattle.cb_remote.proofs.udp.UdpPeerInlet.look.Given as goal

-- no failure was counted
abbrev pub invariant-loop-datagram : goal.invariant-loop-datagram
invariant-loop-datagram l = l.self.failures ≡ l.fn.self.failures
