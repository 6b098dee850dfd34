use Rattle.std.proofs.Common.{subst, sym}
use Rattle.cb_frames.specs.Fields.{StatusFields}
use Rattle.cb_frames.specs.Text.{KeepsStatusRules}
use Rattle.cb_history.specs.State.{MemberState, facts_in}
use Rattle.cb_history.proofs.Written.{status_keeps}
use Rattle.cb_reference.proofs.tick.status_text.Goals as goal

pub frame_text-requires-clause-rules : goal.frame_text-requires-clause-rules
frame_text-requires-clause-rules c =
    let m : MemberState = c.args.past.now in
    let legal = c.member-member.ensures.state.legal in
    subst (λ (s : StatusFields). KeepsStatusRules s) (sym c.in_ok-status.ensures) (status_keeps m.seat (facts_in m) legal.group.size.at_most_sixty_four legal.member)
