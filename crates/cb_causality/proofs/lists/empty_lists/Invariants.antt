use Rattle.std.proofs.Common.{◌≡◌, [], replicate}
use Rattle.cb_causality.proofs.lists.empty_lists.Given as goal
use Rattle.cb_causality.specs.Lists.{contents}

-- so many empty lists
abbrev pub invariant-loop : goal.invariant-loop
invariant-loop g l = contents l.lists.items ≡ replicate l.counter []
