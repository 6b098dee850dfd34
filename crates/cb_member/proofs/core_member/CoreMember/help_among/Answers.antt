use Rattle.std.proofs.lemmas.Result.{IfOk-weaker, IfErr-weaker}
use Rattle.cb_history.specs.Facts.{facts_of}
use Rattle.cb_member.proofs.Cores.{facts_stand, is_state, keeps_of}
use Rattle.cb_member.proofs.core_member.CoreMember.help_among.Goals as goal

pub help_among-requires : goal.help_among-requires
help_among-requires c = is_state c.self.inside.state c.self.invariant

pub returns-clause-asked : goal.returns-clause-asked
returns-clause-asked c =
    let state = c.self.inside.state in
    rw (← c.self.view_is) (IfOk-weaker c.help_among.result _ _ (λ out is entries s. is (facts_of entries) (facts_stand state entries s) (keeps_of state entries s)) c.help_among.ensures.asked)

pub returns-clause-refused : goal.returns-clause-refused
returns-clause-refused c =
    let state = c.self.inside.state in
    rw (← c.self.view_is) (IfErr-weaker c.help_among.result _ _ (λ fault is entries s. is (facts_of entries) (facts_stand state entries s) (keeps_of state entries s)) c.help_among.ensures.refused)

pub returns-clause-bad_member : goal.returns-clause-bad_member
returns-clause-bad_member c = rw (← c.self.view_is) c.help_among.ensures.bad_member
