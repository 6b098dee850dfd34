use Rattle.cb_frames.specs.Fields.{One}
use Rattle.cb_history.specs.CastFault.{fault_told}
use Rattle.cb_member.proofs.Cores.{is_state}
use Rattle.cb_member.proofs.CoreCalls.{may_cast_so}
use Rattle.cb_member.proofs.core_member.CoreMember.may_cast.Goals as goal

pub judge_payload-requires : goal.judge_payload-requires
judge_payload-requires c = is_state c.self.inside.state c.self.invariant

pub returns : goal.returns
returns c = rw (← c.self.view_is) (may_cast_so fault_told c.self.inside.state (One c.args.payload.now) c.judge_payload.result c.judge_payload.ensures)
