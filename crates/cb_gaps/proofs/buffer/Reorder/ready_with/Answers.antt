use Rattle.std.proofs.Common.{arith}
use Rattle.cb_gaps.specs.Ranges.{IsRow, end_with}
use Rattle.cb_gaps.specs.Lists.{HasNumber}
use Rattle.cb_gaps.proofs.Entries.{rise_from}
use Rattle.cb_gaps.proofs.Rows.{would_come_out}
use Rattle.cb_gaps.proofs.buffer.Reorder.ready_with.Goals as goal

pub end_of_row-end-requires : goal.end_of_row-end-requires
end_of_row-end-requires c = record {
  rise = rise_from c.self.inside.taken 0 c.self.inside.kept.items (omega arith) c.self.invariant.0.rise;
  in_range = c.self.invariant.0.in_range;
}

pub end_of_row-end-requires-2 : goal.end_of_row-end-requires-2
end_of_row-end-requires-2 c = record {
  rise = rise_from c.self.inside.taken 0 c.self.inside.kept.items (omega arith) c.self.invariant.0.rise;
  in_range = c.self.invariant.0.in_range;
}

pub returns-clause-row : goal.returns-clause-row
returns-clause-row c =
    let more : IsRow (HasNumber c.self.inside.kept.items) (end_with c.end_of_row-end.result c.args.first c.args.last) c.end_of_row-end-2.result =
    rw c.with_numbers.ensures at c.end_of_row-end-2.ensures in
    rw (← c.self.view_is)
    (would_come_out c.self.inside.window c.self.inside.taken c.self.inside.kept.items c.self.invariant.0 c.end_of_row-end.result c.args.first
    c.args.last c.end_of_row-end-2.result c.end_of_row-end.ensures more)
