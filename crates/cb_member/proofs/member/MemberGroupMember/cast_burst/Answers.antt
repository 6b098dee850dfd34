use Rattle.std.proofs.lemmas.Result.{IfErr-weaker}
use Rattle.cb_history.specs.Load.{many_of}
use Rattle.cb_member.proofs.Judging.{may_refuse_burst}
use Rattle.cb_member.proofs.member.MemberGroupMember.cast_burst.Goals as goal

pub returns-clause-refused : goal.returns-clause-refused
returns-clause-refused c = IfErr-weaker c.cast_burst.result _ _ (may_refuse_burst c.args.self.now (many_of c.args.payloads.now)) c.cast_burst.ensures.refused
