use Rattle.std.proofs.Common.{sym}
use Rattle.cb_trace.proofs.Audited.{none_other}
use Rattle.cb_trace.proofs.auditing.group_of.Goals as goal

pub returns-else-are_of_each_member : goal.returns-else-are_of_each_member
returns-else-are_of_each_member c =
    none_other c.args.histories.now c.in_ok-group.field-0.now (sym c.in_ok-group.ensures.value) (λ are. let yes = c.if-are_of_each_member.ensures.1 are in cc)
