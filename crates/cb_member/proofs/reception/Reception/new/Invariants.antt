use Rattle.std.proofs.Common.{◌≡◌, [], length, map, replicate, All}
use Rattle.cb_gaps.specs.Buffer.{IsNew}
use Rattle.cb_member.proofs.reception.Reception.new.Given as goal

-- so many new buffers, and so many empty stacks
abbrev pub invariant-loop : goal.invariant-loop
invariant-loop l = record {
  many : length l.buffers.items ≡ l.counter;
  each : All (IsNew l.window) l.buffers.items;
  stacks : map (λ times. times.items) l.spares.items ≡ replicate l.counter [];
}
