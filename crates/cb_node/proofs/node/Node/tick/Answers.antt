use Rattle.std.proofs.Common.{sym, ap, ◌∙◌}
use Rattle.cb_node.specs.Kept.{KeptState}
use Rattle.cb_node.specs.Pacing.{with_tick}
use Rattle.cb_node.proofs.Asking.{ticks_alone, ticks_and_asks}
use Rattle.cb_node.proofs.Courses.{and_then}
use Rattle.cb_node.proofs.Turns.{by_course}
use Rattle.cb_node.proofs.node.Node.tick.Goals as goal

pub returns-in_err-help-clause-gone : goal.returns-in_err-help-clause-gone
returns-in_err-help-clause-gone g c = by_course c.args.self.now.kept c.help.new.self _ (and_then _ _ _ c.tick.ensures.goes c.help.ensures.goes)

pub returns-in_ok-help-clause-gone : goal.returns-in_ok-help-clause-gone
returns-in_ok-help-clause-gone g c = by_course c.args.self.now.kept c.help.new.self _ (and_then _ _ _ c.tick.ensures.goes c.help.ensures.goes)

pub returns-in_err-help-clause-refused : goal.returns-in_err-help-clause-refused
returns-in_err-help-clause-refused g c = ap (λ (s : KeptState). s.refused) c.help.ensures.same ∙ c.tick.ensures.refused

pub returns-in_ok-help-clause-refused : goal.returns-in_ok-help-clause-refused
returns-in_ok-help-clause-refused g c = ap (λ (s : KeptState). s.refused) c.help.ensures.same ∙ c.tick.ensures.refused

pub returns-in_ok-help-clause-ticked : goal.returns-in_ok-help-clause-ticked
returns-in_ok-help-clause-ticked g c =
    ticks_and_asks c.args.self.now.kept c.tick.new.self c.help.new.self _ _ c.in_ok-tick.ensures.ticked c.count.ensures.helps c.if-count.true c.help.ensures.same c.in_ok-help.ensures.asked

pub returns-else-count-clause-ticked : goal.returns-else-count-clause-ticked
returns-else-count-clause-ticked g c =
    ticks_alone c.args.self.now.kept c.tick.new.self _ _ c.in_ok-tick.ensures.ticked c.count.ensures.helps c.if-count.false

pub returns-in_ok-help-clause-counted : goal.returns-in_ok-help-clause-counted
returns-in_ok-help-clause-counted g c =
    c.count.ensures.counted ∙ ap (with_tick c.args.self.now.pacing) (c.written.ensures ∙ ap (λ (s : KeptState). s.written) (sym c.help.ensures.same))
