use Rattle.cb_member.proofs.core_member.CoreMember.cast_burst_wanting.Goals as goal

pub returns : goal.returns
returns c = rw (← c.self.view_is) c.cast_burst_joining.ensures
