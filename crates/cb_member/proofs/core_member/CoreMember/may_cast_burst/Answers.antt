use Rattle.cb_history.specs.Load.{many_of}
use Rattle.cb_history.specs.CastFault.{burst_fault_told}
use Rattle.cb_member.proofs.Cores.{is_state}
use Rattle.cb_member.proofs.CoreCalls.{may_cast_so}
use Rattle.cb_member.proofs.core_member.CoreMember.may_cast_burst.Goals as goal

pub judge_payloads-requires : goal.judge_payloads-requires
judge_payloads-requires c = is_state c.self.inside.state c.self.invariant

pub returns : goal.returns
returns c = rw (← c.self.view_is) (may_cast_so burst_fault_told c.self.inside.state (many_of c.args.payloads.now) c.judge_payloads.result c.judge_payloads.ensures)
