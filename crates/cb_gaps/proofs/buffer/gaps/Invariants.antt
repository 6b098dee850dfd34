use Rattle.std.proofs.Common.{◌≡◌, ◌++◌, ◌^◌}
use Rattle.std.specs.VecDeque.Iter.{deque_iter_rest}
use Rattle.cb_gaps.specs.Lists.{Rise, Below}
use Rattle.cb_gaps.proofs.Gaps.{gaps_from}
use Rattle.cb_gaps.proofs.buffer.gaps.Given as goal

-- the gaps so far, and those that the units to come make, are all of them
abbrev pub invariant-loop-unit : goal.invariant-loop-unit
invariant-loop-unit l =
    record {
      rise : Rise l.before (deque_iter_rest l.unit-iterator);
      in_range : Below (2 ^ 32) (deque_iter_rest l.unit-iterator);
      so_far : l.ranges.items ++ gaps_from l.before l.last (deque_iter_rest l.unit-iterator) ≡ gaps_from l.taken l.last l.kept.items;
    }
