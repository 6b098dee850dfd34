use Rattle.std.proofs.Common.{◌≡◌}
use Rattle.cb_member.specs.Readings.{acknowledged_by_in}
use Rattle.cb_member.proofs.Members.{of_member}
use Rattle.cb_member.proofs.member.Member.acknowledged_by.Goals as goal

pub returns : goal.returns
returns c = rw (← c.self.view_is) (of_member c.self.inside.kept c.self.invariant (λ m. c.acknowledged_by.result ≡ acknowledged_by_in m c.args.k) c.acknowledged_by.ensures)
