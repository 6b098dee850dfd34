use Rattle.std.proofs.lemmas.Result.{IfErr-weaker}
use Rattle.cb_frames.specs.Fields.{One}
use Rattle.cb_member.proofs.Judging.{may_refuse}
use Rattle.cb_member.proofs.member.MemberGroupMember.cast.Goals as goal

pub returns-clause-refused : goal.returns-clause-refused
returns-clause-refused c = IfErr-weaker c.cast.result _ _ (may_refuse c.args.self.now (One c.args.payload.now)) c.cast.ensures.refused
