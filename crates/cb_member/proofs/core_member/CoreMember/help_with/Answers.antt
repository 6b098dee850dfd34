use Rattle.std.proofs.Common.{◌<◌, ◌≢◌}
use Rattle.std.proofs.lemmas.Result.{IfOk-weaker}
use Rattle.cb_history.specs.Facts.{facts_of}
use Rattle.cb_member.proofs.Cores.{facts_stand, is_state, keeps_of}
use Rattle.cb_member.proofs.Telling.{help_is_answered}
use Rattle.cb_member.proofs.core_member.CoreMember.help_with.Goals as goal

pub help-requires-clause-state : goal.help-requires-clause-state
help-requires-clause-state c = is_state c.self.inside.state c.self.invariant

pub returns : goal.returns
returns c =
    let state = c.self.inside.state in
    let within : c.args.i < state.seat.group.size = rw (← c.self.view_is) at c.requires.of_group in
    let other : c.args.i ≢ state.seat.me = rw (← c.self.view_is) at c.requires.other in
    rw (← c.self.view_is)
    (IfOk-weaker c.help.result _ _ (λ out is entries s.
    help_is_answered state.seat entries c.args.i out within other (is (facts_of entries) (facts_stand state entries s) (keeps_of state entries s))) c.help.ensures)
