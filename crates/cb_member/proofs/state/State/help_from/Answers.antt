use Rattle.std.proofs.Common.{◌∙◌, ℕ, ap, sym}
use Rattle.std.specs.Prelude.{option_map}
use Rattle.cb_frames.specs.Fields.{fields_of}
use Rattle.cb_gaps.specs.Request.{help_for}
use Rattle.cb_history.specs.Group.{Parameters}
use Rattle.cb_member.proofs.Telling.{helped}
use Rattle.cb_member.proofs.state.State.help_from.Goals as goal

pub frame_text-requires-clause-rules : goal.frame_text-requires-clause-rules
frame_text-requires-clause-rules c =
    let seat = c.args.self.now.seat in
    let state = c.requires.state in
    let ranges = c.args.ranges.now in
    (helped seat state.facts c.args.i c.args.helper ranges (fields_of c.in-Some.frame) state.legal c.requires.of_group c.requires.helper
    (c.requires.asked state.facts state.legal state.keeps)
    (ap (option_map fields_of) (sym c.in-Some.is) ∙ c.in_ok-frame.ensures.frame
    ∙ ap (λ (n : ℕ). help_for n c.me-me.result c.args.helper c.args.i ranges) (c.number-group.ensures ∙ ap (λ (g : Parameters). g.number) c.group.ensures.group)
    ∙ ap (λ (n : ℕ). help_for seat.group.number n c.args.helper c.args.i ranges) c.me-me.ensures.me)).0
