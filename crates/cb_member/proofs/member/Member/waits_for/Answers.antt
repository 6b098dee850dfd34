use Rattle.std.proofs.Common.{◌≡◌}
use Rattle.cb_member.specs.Readings.{waits_for_in}
use Rattle.cb_member.proofs.Members.{of_member}
use Rattle.cb_member.proofs.member.Member.waits_for.Goals as goal

pub returns : goal.returns
returns c = rw (← c.self.view_is) (of_member c.self.inside.kept c.self.invariant (λ m. c.waits_for.result ≡ waits_for_in m c.args.i) c.waits_for.ensures)
