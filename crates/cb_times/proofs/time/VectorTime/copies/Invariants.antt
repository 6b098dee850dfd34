use Rattle.std.proofs.Common.{◌≡◌, take}
use Rattle.cb_times.proofs.time.VectorTime.copies.Given as goal

abbrev pub invariant-loop-time : goal.invariant-loop-time
invariant-loop-time l = l.copies.items ≡ take l.time-index l.times
