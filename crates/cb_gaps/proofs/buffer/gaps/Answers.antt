use Rattle.std.proofs.Common.{◌≡◌, ◌++◌, ◌^◌, ℕ, arith, subst, sym}
use Rattle.std.specs.VecDeque.Iter.{deque_iter_rest}
use Rattle.cb_gaps.specs.Lists.{Rise}
use Rattle.cb_gaps.proofs.Gaps.{gaps_from, one_numbered, one_rise, one_below, one_gap, walked}
use Rattle.cb_gaps.proofs.buffer.gaps.Goals as goal

pub last-before-requires : goal.last-before-requires
last-before-requires c =
    one_numbered c.loop-unit.before c.in-Some.unit.now (deque_iter_rest c.loop-unit.unit-iterator) (deque_iter_rest c.next.new.self)
    c.in-Some.ensures.steps c.loop-unit.invariant.rise c.loop-unit.invariant.in_range

pub loop-unit-preserved : goal.loop-unit-preserved
loop-unit-preserved c =
    let unit = c.in-Some.unit.now in
    let rest = deque_iter_rest c.loop-unit.unit-iterator in
    let after = deque_iter_rest c.next.new.self in
    record {
      rise = subst (λ (n : ℕ). Rise n after) (sym c.last-before.ensures)
          (one_rise c.loop-unit.before unit rest after c.in-Some.ensures.steps c.loop-unit.invariant.rise);
      in_range = one_below (2 ^ 32) unit rest after c.in-Some.ensures.steps c.loop-unit.invariant.in_range;
      so_far = subst (λ (n : ℕ). c.push_gap.new.ranges.items ++ gaps_from n c.args.last after ≡ gaps_from c.args.taken c.args.last c.args.kept.now.items)
          (sym c.last-before.ensures)
          (one_gap c.args.taken c.args.last c.loop-unit.before unit c.args.kept.now.items rest after c.loop-unit.ranges.items
          c.push_gap.new.ranges.items c.in-Some.ensures.steps c.min.result (omega (arith, c.min.ensures, c.first.ensures)) c.in_ok-push_gap.ensures
          c.loop-unit.invariant.so_far);
    }

pub returns : goal.returns
returns c =
    walked c.args.taken c.args.last c.loop-unit.before c.args.kept.now.items (deque_iter_rest c.loop-unit.unit-iterator)
    c.loop-unit.ranges.items c.push_gap-2.new.ranges.items c.requires.rise c.in-None.ensures.steps.0 c.loop-unit.invariant.so_far
    c.in_ok-push_gap-2.ensures
