use Rattle.std.proofs.Common.{◌≡◌}
use Rattle.std.proofs.lemmas.Result.{IfOk-weaker}
use Rattle.cb_history.specs.Known.{ranges_of}
use Rattle.cb_history.specs.State.{missing_in}
use Rattle.cb_member.proofs.Members.{of_member}
use Rattle.cb_member.proofs.member.Member.missing.Goals as goal

pub returns-clause-ranges : goal.returns-clause-ranges
returns-clause-ranges c =
    rw (← c.self.view_is) (IfOk-weaker c.missing.result _ _ (λ ranges on. of_member c.self.inside.kept c.self.invariant (λ m. ranges.items ≡ ranges_of (missing_in m c.args.i)) on) c.missing.ensures.ranges)

pub returns-clause-bad_member : goal.returns-clause-bad_member
returns-clause-bad_member c = rw (← c.self.view_is) c.missing.ensures.bad_member
