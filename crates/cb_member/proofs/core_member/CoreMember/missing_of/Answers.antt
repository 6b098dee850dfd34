use Rattle.std.proofs.lemmas.Result.{IfOk-weaker}
use Rattle.cb_history.specs.Facts.{facts_of}
use Rattle.cb_member.proofs.Cores.{facts_stand, is_state, keeps_of}
use Rattle.cb_member.proofs.core_member.CoreMember.missing_of.Goals as goal

pub missing-requires-clause-state : goal.missing-requires-clause-state
missing-requires-clause-state c = is_state c.self.inside.state c.self.invariant

pub returns : goal.returns
returns c =
    let state = c.self.inside.state in
    rw (← c.self.view_is)
    (IfOk-weaker c.missing.result _ _ (λ ranges are entries s. are (facts_of entries) (facts_stand state entries s) (keeps_of state entries s)) c.missing.ensures)
