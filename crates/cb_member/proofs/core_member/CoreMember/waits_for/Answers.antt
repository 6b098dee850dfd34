use Rattle.cb_history.specs.Facts.{facts_of}
use Rattle.cb_member.proofs.Cores.{facts_stand, is_state, keeps_of}
use Rattle.cb_member.proofs.core_member.CoreMember.waits_for.Goals as goal

pub waits_for-requires : goal.waits_for-requires
waits_for-requires c = is_state c.self.inside.state c.self.invariant

pub returns : goal.returns
returns c =
    let state = c.self.inside.state in
    rw (← c.self.view_is) (λ entries s. c.waits_for.ensures (facts_of entries) (facts_stand state entries s) (keeps_of state entries s))
