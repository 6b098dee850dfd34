use Rattle.cb_member.proofs.Members.{is_member_state}
use Rattle.cb_member.proofs.member.Member.seat.Goals as goal

pub returns-clause-seat : goal.returns-clause-seat
returns-clause-seat c = rw (← c.self.view_is) c.seat.ensures

pub returns-clause-member : goal.returns-clause-member
returns-clause-member c = rw (← c.self.view_is) (is_member_state c.self.inside.kept c.self.invariant)
