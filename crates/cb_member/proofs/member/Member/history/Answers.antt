use Rattle.cb_member.proofs.Members.{is_member_state}
use Rattle.cb_member.proofs.member.Member.history.Goals as goal

pub returns-clause-entries : goal.returns-clause-entries
returns-clause-entries c = rw (← c.self.view_is) c.entries.ensures

pub returns-clause-legal : goal.returns-clause-legal
returns-clause-legal c = rw (← c.self.view_is) (is_member_state c.self.inside.kept c.self.invariant)
