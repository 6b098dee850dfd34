use Rattle.std.proofs.Common.{◌≡◌, ◌≤◌, count_by}
use Rattle.std.specs.List.{range_with_len}
use Rattle.cb_times.specs.Order.{field}
use Rattle.cb_delay.specs.Rule.{is_above}
use Rattle.cb_delay.proofs.message.count_above.Given as goal

-- the fields so far are counted
abbrev pub invariant-loop-j : goal.invariant-loop-j
invariant-loop-j l = record {
  counted : l.above ≡ count_by (is_above (field l.stamps) (field l.counts)) (range_with_len l.first l.j);
  few : l.above ≤ l.j;
}
