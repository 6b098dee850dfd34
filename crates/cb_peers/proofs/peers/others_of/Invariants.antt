use Rattle.std.proofs.Common.{◌≡◌, ◌++◌, drop}
use Rattle.cb_peers.specs.Placing.{others_from}
use Rattle.cb_peers.proofs.peers.others_of.Given as goal

-- with those of the addresses to come they are all
abbrev pub invariant-loop-number : goal.invariant-loop-number
invariant-loop-number l = l.others.items ++ others_from l.me l.number (drop l.number l.addresses) ≡ others_from l.me 0 l.addresses
