use Rattle.std.proofs.Common.{◌≡◌, drop}
use Rattle.cb_history.specs.Known.{value_in}
use Rattle.cb_reference.proofs.known.value_in.Given as goal

-- the other values decide
abbrev pub invariant-loop-value : goal.invariant-loop-value
invariant-loop-value l = value_in (drop l.value-index l.values) l.k ≡ value_in l.values l.k
