use Rattle.std.proofs.Common.{refl, ap, ◌∙◌, arith}
use Rattle.cb_node.proofs.Keeping.{keeps_nothing}
use Rattle.cb_node.specs.Kept.{KeptState}
use Rattle.cb_node.proofs.Hearing.{and_hinders_none, hinders_none_between}
use Rattle.cb_node.proofs.Turns.{go_on, keep_on, nothing_gone}
use Rattle.cb_node.proofs.node.Node.listen.Goals as goal

pub loop-frame-init : goal.loop-frame-init
loop-frame-init g c = (nothing_gone _ _, keeps_nothing g.K.Keeper.has _ _ _, omega arith, refl, (refl, refl))

pub returns-in_default-clause-gone : goal.returns-in_default-clause-gone
returns-in_default-clause-gone g c = go_on _ _ _ _ _ _ c.loop-frame.invariant.0 c.hear.ensures.gone

pub returns-in_default-clause-keeps : goal.returns-in_default-clause-keeps
returns-in_default-clause-keeps g c =
    keep_on g.K.Keeper.has c.args.self.now.keeper c.loop-frame.self.keeper c.hear.new.self.keeper c.args.self.now.kept c.loop-frame.self.kept c.hear.new.self.kept c.loop-frame.invariant.1 c.hear.ensures.keeps

pub loop-frame-preserved : goal.loop-frame-preserved
loop-frame-preserved g c = (
  go_on _ _ _ _ _ _ c.loop-frame.invariant.0 c.hear.ensures.gone,
  keep_on g.K.Keeper.has c.args.self.now.keeper c.loop-frame.self.keeper c.hear.new.self.keeper c.args.self.now.kept c.loop-frame.self.kept c.hear.new.self.kept c.loop-frame.invariant.1 c.hear.ensures.keeps,
  omega (arith, c.loop-frame.invariant.2, c.hear.ensures.shown),
  c.hear.ensures.handed ∙ c.loop-frame.invariant.3,
  and_hinders_none c.loop-frame.hindered c.in-Some.taken _ c.args.self.now.kept.refused c.loop-frame.self.kept.refused c.hear.new.self.kept.refused c.and-hindered.ensures c.loop-frame.invariant.4 c.in-Some.ensures.unhindered,
)

pub returns-in_default-clause-unhindered : goal.returns-in_default-clause-unhindered
returns-in_default-clause-unhindered g c =
    hinders_none_between c.loop-frame.hindered c.args.self.now.kept.refused c.args.self.now.kept.refused c.loop-frame.self.kept.refused c.hear.new.self.kept.refused refl
    (ap (λ (s : KeptState). s.refused) c.in_default.ensures.unhindered) c.loop-frame.invariant.4
