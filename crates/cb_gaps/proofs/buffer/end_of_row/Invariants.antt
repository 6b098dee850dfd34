use Rattle.std.proofs.Common.{◌≡◌, ◌^◌}
use Rattle.std.specs.VecDeque.Iter.{deque_iter_rest}
use Rattle.cb_gaps.specs.Lists.{Rise, Below}
use Rattle.cb_gaps.proofs.Rows.{row_end}
use Rattle.cb_gaps.proofs.buffer.end_of_row.Given as goal

-- the units to come end the row where all of them do
abbrev pub invariant-loop-unit : goal.invariant-loop-unit
invariant-loop-unit l =
    record {
      rise : Rise 0 (deque_iter_rest l.unit-iterator);
      in_range : Below (2 ^ 32) (deque_iter_rest l.unit-iterator);
      so_far : row_end l.end (deque_iter_rest l.unit-iterator) ≡ row_end l.behind l.kept.items;
    }
