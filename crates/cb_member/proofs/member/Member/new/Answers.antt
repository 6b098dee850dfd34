use Rattle.std.proofs.Common.{arith}
use Rattle.cb_member.proofs.Members.{new_keeps_history, new_member}
use Rattle.cb_member.proofs.member.Member.new.Goals as goal

pub invariant_of-result : goal.invariant_of-result
invariant_of-result c =
    let some = c.if-history_max-eq0.false in
    new_keeps_history c.args.group c.args.me c.args.history_max c.in-Ok.kept c.in-Ok.ensures.new (omega (arith, some)) c.in-Ok.ensures.may.1

pub returns-in-Ok-clause-ok : goal.returns-in-Ok-clause-ok
returns-in-Ok-clause-ok c =
    let some = c.if-history_max-eq0.false in
    new_member c.args.group c.args.me c.args.history_max c.in-Ok.kept c.in-Ok.ensures.new (omega (arith, some)) c.in-Ok.ensures.may.1
