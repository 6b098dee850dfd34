use Rattle.std.proofs.Common.{sym, ◌∙◌}
use Rattle.cb_delay.specs.Queue.{with_one_more}
use Rattle.cb_member.proofs.Waiting.{none_ready_of_none}
use Rattle.cb_member.proofs.delivery.Delivery.leaves_waiting.Goals as goal

pub returns-then-len-eq0-clause-leaves : goal.returns-then-len-eq0-clause-leaves
returns-then-len-eq0-clause-leaves c leaves =
    let none = sym c.len.ensures.len ∙ c.if-len-eq0.true in
    record {
      none = none_ready_of_none c.args.self.now.queue c.args.self.now.time none;
      none_then = none_ready_of_none c.args.self.now.queue (with_one_more c.args.self.now.time c.args.sender) none;
    }

pub returns-else-len-eq0-clause-leaves : goal.returns-else-len-eq0-clause-leaves
returns-else-len-eq0-clause-leaves c leaves = record { none = c.leaves_waiting.ensures.none leaves; none_then = c.leaves_waiting.ensures.none_next leaves }
