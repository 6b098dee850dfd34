use Rattle.std.proofs.Common.{◌≡◌}
use Rattle.cb_history.specs.State.{stable_of_in}
use Rattle.cb_member.proofs.Members.{of_member}
use Rattle.cb_member.proofs.member.Member.stable_of.Goals as goal

pub returns : goal.returns
returns c = rw (← c.self.view_is) (of_member c.self.inside.kept c.self.invariant (λ m. c.stable_of.result ≡ stable_of_in m c.args.i) c.stable_of.ensures)
