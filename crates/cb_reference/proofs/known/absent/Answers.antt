use Rattle.std.proofs.Common.{ℕ, ◌+◌, ◌-◌, not, arith, rules, tests}
use Rattle.cb_history.specs.Facts.{is_there, numbers_between}
use Rattle.std.specs.List.{filter}
use Rattle.cb_reference.proofs.Numbers.{kept_more, left_more}
use Rattle.cb_reference.proofs.known.absent.Goals as goal
use Rattle.cb_reference.proofs.known.absent.Goals.{then-not-is_there+in_ok-push, else-not-is_there}

pub loop-below-preserved : goal.loop-below-preserved
loop-below-preserved c =
    let test = λ (n : ℕ). not (is_there c.args.casts.now c.args.sender n) in
    let whole = filter test (numbers_between c.args.low c.args.high) in
    elim c.if-not-is_there.branch [
      | then-not-is_there+in_ok-push w ↦
          kept_more test (c.args.low + 1) (c.args.high - c.args.low) c.loop-below.below c.loop-below.numbers.items c.if-not-is_there.numbers.items whole
          (omega arith) (search (rules, tests)) (rw w.numbers-is w.in_ok-push.ensures.items) c.loop-below.invariant
      | else-not-is_there w ↦
          left_more test (c.args.low + 1) (c.args.high - c.args.low) c.loop-below.below c.loop-below.numbers.items c.if-not-is_there.numbers.items whole
          (omega arith) (search (rules, tests)) (cc) c.loop-below.invariant
    ]
