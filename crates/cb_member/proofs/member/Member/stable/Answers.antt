use Rattle.std.proofs.Common.{◌≡◌}
use Rattle.cb_history.specs.State.{stable_in}
use Rattle.cb_member.proofs.Members.{of_member}
use Rattle.cb_member.proofs.member.Member.stable.Goals as goal

pub returns : goal.returns
returns c = rw (← c.self.view_is) (of_member c.self.inside.kept c.self.invariant (λ m. c.stable.result ≡ stable_in m) c.stable.ensures)
