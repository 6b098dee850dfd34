use Rattle.cb_member.proofs.core_member.CoreMember.receive_wanting.Goals as goal

pub returns : goal.returns
returns c = rw (← c.self.view_is) c.receive_unlimited.ensures
