use Rattle.std.proofs.Common.{refl, ap, ◌∙◌}
use Rattle.cb_node.specs.Kept.{KeptState}
use Rattle.cb_node.proofs.Hearing.{and_hinders_none, hinders_none_between, same_on_ok}
use Rattle.cb_node.proofs.Turns.{go_on, keep_on, keep_same}
use Rattle.cb_node.proofs.node.Node.work.Goals as goal

pub returns-clause-gone : goal.returns-clause-gone
returns-clause-gone g c =
    go_on _ _ _ _ _ _ c.send.ensures.sent (go_on _ _ _ _ _ _ c.listen-taken.ensures.gone (go_on _ _ _ _ _ _ c.tick_if_due-ticked.ensures.gone c.send-2.ensures.sent))

pub returns-clause-keeps : goal.returns-clause-keeps
returns-clause-keeps g c =
    let old = c.args.self.now in
    let sent = c.send.new.self in
    let heard = c.listen-taken.new.self in
    let ticked = c.tick_if_due-ticked.new.self in
    let last = c.send-2.new.self in
    keep_on g.K.Keeper.has old.keeper sent.keeper last.keeper old.kept sent.kept last.kept (keep_same g.K.Keeper.has old.keeper sent.keeper old.kept sent.kept c.send.ensures.keeper c.send.ensures.same)
    (keep_on g.K.Keeper.has sent.keeper heard.keeper last.keeper sent.kept heard.kept last.kept c.listen-taken.ensures.keeps
    (keep_on g.K.Keeper.has heard.keeper ticked.keeper last.keeper heard.kept ticked.kept last.kept c.tick_if_due-ticked.ensures.keeps
    (keep_same g.K.Keeper.has ticked.keeper last.keeper ticked.kept last.kept c.send-2.ensures.keeper c.send-2.ensures.same)))

pub returns-clause-unhindered : goal.returns-clause-unhindered
returns-clause-unhindered g c =
    let old = c.args.self.now in
    let heard = c.listen-taken.new.self in
    let ticked = c.tick_if_due-ticked.new.self in
    let last = c.send-2.new.self in
    let taken = hinders_none_between c.listen-taken.result old.kept.refused c.send.new.self.kept.refused heard.kept.refused heard.kept.refused (ap (λ (s : KeptState). s.refused) c.send.ensures.same) refl c.listen-taken.ensures.unhindered in
    let after = same_on_ok c.tick_if_due-ticked.result heard.kept.refused last.kept.refused (ap (λ (s : KeptState). s.refused) c.send-2.ensures.same ∙ c.tick_if_due-ticked.ensures.refused) in
    and_hinders_none c.listen-taken.result c.tick_if_due-ticked.result _ old.kept.refused heard.kept.refused last.kept.refused c.and.ensures taken after
