use Rattle.std.proofs.Common.{◌≡◌}
use Rattle.cb_member.specs.Readings.{keeps_window_full_in}
use Rattle.cb_member.proofs.Members.{of_member}
use Rattle.cb_member.proofs.member.Member.keeps_window_full.Goals as goal

pub returns : goal.returns
returns c = rw (← c.self.view_is) (of_member c.self.inside.kept c.self.invariant (λ m. c.keeps_window_full.result ≡ keeps_window_full_in m c.args.k) c.keeps_window_full.ensures)
