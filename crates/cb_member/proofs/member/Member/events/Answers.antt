use Rattle.std.proofs.Common.{◌∙◌}
use Rattle.cb_member.proofs.member.Member.events.Goals as goal

pub returns : goal.returns
returns c = rw (← c.self.view_is) (c.events.ensures ∙ c.self.invariant.history.events_are)
