use Rattle.std.proofs.Common.{◌+◌, ◌∙◌, sym, arith, rules}
use Rattle.cb_history.specs.Facts.{is_there}
use Rattle.cb_reference.proofs.Walks.{all_more, all_fails, all_end}
use Rattle.cb_reference.proofs.view.is_expanded.Goals as goal

pub loop-below-preserved : goal.loop-below-preserved
loop-below-preserved c =
    all_more (is_there c.args.casts.now c.args.message.sender) 1 c.args.message.number c.loop-below.below (omega arith) (search rules)
    ∙ c.loop-below.invariant

pub returns-then-not-is_there : goal.returns-then-not-is_there
returns-then-not-is_there c =
    sym (all_fails (is_there c.args.casts.now c.args.message.sender) 1 c.args.message.number c.loop-below.below (omega arith) (search rules))
    ∙ c.loop-below.invariant

pub returns : goal.returns
returns c =
    sym (all_end (is_there c.args.casts.now c.args.message.sender) (c.loop-below.below + 1) c.args.message.number c.loop-below.below (omega arith))
    ∙ c.loop-below.invariant
