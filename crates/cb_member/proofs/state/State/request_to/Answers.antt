use Rattle.std.proofs.Common.{◌∙◌, ℕ, ap, sym}
use Rattle.std.specs.Prelude.{option_map}
use Rattle.cb_frames.specs.Fields.{fields_of}
use Rattle.cb_gaps.specs.Request.{request_for}
use Rattle.cb_history.specs.Group.{Parameters}
use Rattle.cb_member.proofs.Telling.{requested}
use Rattle.cb_member.proofs.state.State.request_to.Goals as goal

pub frame_text-requires-clause-rules : goal.frame_text-requires-clause-rules
frame_text-requires-clause-rules c =
    let seat = c.args.self.now.seat in
    let state = c.requires.state in
    let ranges = c.deref.result.now in
    (requested seat state.facts c.args.i ranges (fields_of c.in-Some.frame) state.legal c.requires.of_group
    (c.deref.ensures.value ∙ c.in_ok-ranges.ensures state.facts state.legal state.keeps)
    (ap (option_map fields_of) (sym c.in-Some.is) ∙ c.in_ok-request_of.ensures.frame
    ∙ ap (λ (n : ℕ). request_for n c.me.result c.args.i ranges) (c.number.ensures ∙ ap (λ (g : Parameters). g.number) c.group.ensures.group)
    ∙ ap (λ (n : ℕ). request_for seat.group.number n c.args.i ranges) c.me.ensures.me)).0
