use Rattle.cb_history.specs.Facts.{facts_of}
use Rattle.cb_member.proofs.Cores.{facts_stand, is_state, keeps_of}
use Rattle.cb_member.proofs.core_member.CoreMember.keeps_window_full.Goals as goal

pub keeps_window_full-requires : goal.keeps_window_full-requires
keeps_window_full-requires c = is_state c.self.inside.state c.self.invariant

pub returns : goal.returns
returns c =
    let state = c.self.inside.state in
    rw (← c.self.view_is) (λ entries s. c.keeps_window_full.ensures (facts_of entries) (facts_stand state entries s) (keeps_of state entries s))
