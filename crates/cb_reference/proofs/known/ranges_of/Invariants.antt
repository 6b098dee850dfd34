use Rattle.std.proofs.Common.{◌≡◌, ◌++◌, drop}
use Rattle.cb_history.specs.Known.{ranges_of}
use Rattle.cb_reference.proofs.Ticking.{opened}
use Rattle.cb_reference.proofs.known.ranges_of.Given as goal

-- the closed ranges, and then the open one with those of the other numbers
abbrev pub invariant-loop-n : goal.invariant-loop-n
invariant-loop-n l = l.ranges.items ++ opened l.open (ranges_of (drop l.n-index l.others)) ≡ ranges_of l.numbers
