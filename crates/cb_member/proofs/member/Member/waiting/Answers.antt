use Rattle.std.proofs.Common.{◌≡◌}
use Rattle.cb_member.specs.Readings.{waiting_in}
use Rattle.cb_member.proofs.Members.{of_member}
use Rattle.cb_member.proofs.member.Member.waiting.Goals as goal

pub returns : goal.returns
returns c = rw (← c.self.view_is) (of_member c.self.inside.kept c.self.invariant (λ m. c.waiting.result ≡ waiting_in m) c.waiting.ensures)
