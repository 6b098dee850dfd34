use Rattle.std.proofs.Common.{◌≡◌, ◌∙◌, map, ap, sym, rules, tests}
use Rattle.std.proofs.lemmas.Result.{IfOk-weaker}
use Rattle.cb_frames.specs.Fields.{request_fields}
use Rattle.cb_history.specs.StabilityLaws.{sent_to}
use Rattle.cb_history.proofs.Keeping.{frames_in_are_sent_in_answer}
use Rattle.cb_stability.specs.Sent.{frames_in}
use Rattle.cb_member.proofs.state.State.sent_in_answer.Goals as goal

pub returns : goal.returns
returns c =
    let state = c.args.self.now in
    let request = request_fields c.args.request.now in
    let frames : c.in_ok-frames.frames.items ≡ frames_in request.ranges state.sending.window = c.in_ok-frames.ensures ∙ ap (λ ranges. frames_in ranges state.sending.window) c.deref.ensures.value in
    IfOk-weaker c.sent_to.result _ _ (λ out is facts are keeps.
    is ∙ ap (map (sent_to request.requester)) frames ∙ sym (frames_in_are_sent_in_answer state.seat facts state.sending.window request are keeps.sent.window (search (rules, tests)))) c.sent_to.ensures
