use Rattle.std.proofs.Common.{subst, sym}
use Rattle.cb_frames.specs.Fields.{StatusFields}
use Rattle.cb_frames.specs.Text.{KeepsStatusRules}
use Rattle.cb_history.proofs.Written.{status_keeps}
use Rattle.cb_member.proofs.state.State.status_text.Goals as goal

pub frame_text-requires-clause-rules : goal.frame_text-requires-clause-rules
frame_text-requires-clause-rules c =
    let legal = c.requires.legal in
    subst (λ (s : StatusFields). KeepsStatusRules s) (sym (c.in_ok-status.ensures c.requires.facts legal c.requires.keeps))
    (status_keeps c.args.self.now.seat c.requires.facts legal.group.size.at_most_sixty_four legal.member)
