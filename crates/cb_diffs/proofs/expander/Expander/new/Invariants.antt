use Rattle.std.proofs.Common.{◌≡◌, replicate}
use Rattle.cb_diffs.proofs.expander.Expander.new.Given as goal

abbrev pub invariant-loop : goal.invariant-loop
invariant-loop l = l.times.items ≡ replicate l.counter (replicate l.size 0)
