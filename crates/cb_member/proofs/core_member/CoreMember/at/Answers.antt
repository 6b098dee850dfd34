use Rattle.cb_member.proofs.Cores.{new_is_core, new_stands}
use Rattle.cb_member.proofs.core_member.CoreMember.at.Goals as goal

pub invariant_of-result : goal.invariant_of-result
invariant_of-result c = new_is_core c.args.seat c.in_ok-state.state c.requires c.in_ok-state.ensures

pub returns-clause-empty : goal.returns-clause-empty
returns-clause-empty c = new_stands c.args.seat c.in_ok-state.state c.requires c.in_ok-state.ensures
