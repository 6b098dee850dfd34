use Rattle.std.proofs.Common.{◌≡◌, ◌-◌, ◌≤◌, ◌<◌, ◌^◌, max, arith, subst, ℕ}
use Rattle.std.specs.VecDeque.Iter.{deque_iter_rest}
use Rattle.cb_gaps.specs.Lists.{first_of, last_of}
use Rattle.cb_gaps.proofs.Entries.{rise_from}
use Rattle.cb_gaps.proofs.Gaps.{one_numbered, one_rise, one_below}
use Rattle.cb_gaps.proofs.Rows.{row_end, one_row, last_row, whole_row}
use Rattle.cb_gaps.proofs.buffer.end_of_row.Goals as goal

pub returns-then-end-first : goal.returns-then-end-first
returns-then-end-first c =
    let gap : c.loop-unit.end < first_of c.in-Some.unit.now - 1 = omega (arith, c.if-end-first.true, c.first.ensures) in
    last_row c.args.behind 0 c.loop-unit.end c.in-Some.unit.now c.args.kept.now.items (deque_iter_rest c.loop-unit.unit-iterator)
    (deque_iter_rest c.next.new.self) c.in-Some.ensures.steps gap c.loop-unit.invariant.so_far c.requires.rise

pub last-requires : goal.last-requires
last-requires c =
    one_numbered 0 c.in-Some.unit.now (deque_iter_rest c.loop-unit.unit-iterator) (deque_iter_rest c.next.new.self) c.in-Some.ensures.steps
    c.loop-unit.invariant.rise c.loop-unit.invariant.in_range

pub loop-unit-preserved : goal.loop-unit-preserved
loop-unit-preserved c =
    let unit = c.in-Some.unit.now in
    let rest = deque_iter_rest c.loop-unit.unit-iterator in
    let after = deque_iter_rest c.next.new.self in
    let near : first_of unit - 1 ≤ c.loop-unit.end = omega (arith, c.if-end-first.false, c.first.ensures) in
    let longer : max c.loop-unit.end (last_of unit) ≡ c.max-end.result = omega (arith, c.max-end.ensures, c.last.ensures) in
    record {
      rise = rise_from (last_of unit) 0 after (omega arith) (one_rise 0 unit rest after c.in-Some.ensures.steps c.loop-unit.invariant.rise);
      in_range = one_below (2 ^ 32) unit rest after c.in-Some.ensures.steps c.loop-unit.invariant.in_range;
      so_far = subst (λ (end : ℕ). row_end end after ≡ row_end c.args.behind c.args.kept.now.items) longer
          (one_row c.args.behind c.loop-unit.end unit c.args.kept.now.items rest after c.in-Some.ensures.steps near c.loop-unit.invariant.so_far);
    }

pub returns : goal.returns
returns c =
    whole_row c.args.behind 0 c.loop-unit.end c.args.kept.now.items (deque_iter_rest c.loop-unit.unit-iterator) c.in-None.ensures.steps.0
    c.loop-unit.invariant.so_far c.requires.rise
