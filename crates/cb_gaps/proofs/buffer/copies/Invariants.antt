use Rattle.std.proofs.Common.{◌≡◌, ◌≤◌, ◌++◌, map}
use Rattle.std.specs.VecDeque.{deque_capacity}
use Rattle.std.specs.VecDeque.Iter.{deque_iter_rest}
use Rattle.cb_frames.specs.Fields.{unit_fields}
use Rattle.cb_gaps.proofs.buffer.copies.Given as goal

-- the copies so far, and the units to come, are all of them
abbrev pub invariant-loop-unit : goal.invariant-loop-unit
invariant-loop-unit l =
    record {
      so_far : map unit_fields l.copies.items ++ map unit_fields (deque_iter_rest l.unit-iterator) ≡ map unit_fields l.units.items;
      places : l.places ≤ deque_capacity l.copies;
    }
