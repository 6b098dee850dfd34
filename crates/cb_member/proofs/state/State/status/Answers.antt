use Rattle.std.proofs.Common.{◌∙◌, ap}
use Rattle.cb_history.specs.Group.{Parameters}
use Rattle.cb_member.proofs.Telling.{same_status, values_say_the_time}
use Rattle.cb_member.proofs.state.State.status.Goals as goal

pub returns : goal.returns
returns c facts are keeps =
    let state = c.args.self.now in
    same_status _ _ (c.number.ensures ∙ ap (λ (g : Parameters). g.number) c.group.ensures.group) c.me.ensures.me
    (c.in_ok-values_of.ensures ∙ values_say_the_time state.seat facts state.delivery keeps.delivered)
