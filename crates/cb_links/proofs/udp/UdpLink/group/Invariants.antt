use Rattle.std.proofs.Common.{◌≡◌, length}
use Rattle.cb_links.proofs.udp.UdpLink.group.Given as goal

-- there is a link for each member so far
abbrev pub invariant-loop-me : goal.invariant-loop-me
invariant-loop-me g l = length l.links.items ≡ l.me
