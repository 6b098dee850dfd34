use Rattle.std.proofs.Common.{◌≡◌}
use Rattle.cb_member.specs.Readings.{delivered_of_in}
use Rattle.cb_member.proofs.Members.{of_member}
use Rattle.cb_member.proofs.member.Member.delivered_of.Goals as goal

pub returns : goal.returns
returns c = rw (← c.self.view_is) (of_member c.self.inside.kept c.self.invariant (λ m. c.delivered_of.result ≡ delivered_of_in m c.args.k) c.delivered_of.ensures)
