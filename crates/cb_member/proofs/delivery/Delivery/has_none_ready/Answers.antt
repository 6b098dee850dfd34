use Rattle.std.proofs.Common.{sym, ◌∙◌}
use Rattle.cb_member.proofs.Waiting.{none_ready_of_none, none_named}
use Rattle.cb_member.proofs.delivery.Delivery.has_none_ready.Goals as goal

pub returns-then-len-eq0-clause-none : goal.returns-then-len-eq0-clause-none
returns-then-len-eq0-clause-none c empty = none_ready_of_none c.args.self.now.queue c.args.self.now.time (sym c.len.ensures.len ∙ c.if-len-eq0.true)

pub returns-else-len-eq0-clause-none : goal.returns-else-len-eq0-clause-none
returns-else-len-eq0-clause-none c none = none_named _ c.next_ready.result c.is_none.result c.is_none.ensures none c.next_ready.ensures.none
