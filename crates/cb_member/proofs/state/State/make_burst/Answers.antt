use Rattle.std.proofs.Common.{◌∙◌, ◌+◌, ℕ, List, ap, arith, length, subst, sym}
use Rattle.cb_frames.specs.Fields.{Many, CastFields, payloads_of}
use Rattle.cb_frames.specs.Text.{KeepsCastRules}
use Rattle.cb_delay.specs.declared.message.Message.{Message}
use Rattle.cb_history.specs.Answers.{delivered, next_cast}
use Rattle.cb_history.specs.Load.{many_of}
use Rattle.cb_history.proofs.Counts.{numbers_left}
use Rattle.cb_history.proofs.Loads.{fitting_keeps_rules}
use Rattle.cb_history.proofs.Written.{next_keeps}
use Rattle.cb_member.proofs.Casting.{next_many}
use Rattle.cb_member.proofs.Judging.{few_for}
use Rattle.cb_member.proofs.state.State.make_burst.Goals as goal

pub remove-first-requires : goal.remove-first-requires
remove-first-requires c =
    let state = c.requires.state in
    let are = c.in_ok-others.ensures state.facts state.legal (record { delivered = state.keeps.delivered; received = state.keeps.received; knows = state.keeps.knows; sent = state.keeps.sent; relayed = state.keeps.relayed }) in
    let many = ap (λ (ms : List Message). length ms) are ∙ next_many c.args.self.now.seat state.facts (Many c.deref.result.now) in
    let same = ap (λ (ps : List (List ℕ)). length ps) (c.deref.ensures.value ∙ c.in_ok-payloads.ensures) in
    omega (arith, many, same, c.requires.can.fits.some)

pub frame_text-requires-clause-rules : goal.frame_text-requires-clause-rules
frame_text-requires-clause-rules c =
    let state = c.requires.state in
    let seat = c.args.self.now.seat in
    let load = many_of c.args.payloads.now in
    let is = c.in_ok-next_burst.ensures state.facts state.legal (record { delivered = state.keeps.delivered; received = state.keeps.received; knows = state.keeps.knows; sent = state.keeps.sent; relayed = state.keeps.relayed }) in
    let left = numbers_left seat state.facts (length (payloads_of load)) (few_for c.args.self.now state.facts load state.legal state.keeps c.requires.can) in
    let rules = next_keeps seat state.facts load (fitting_keeps_rules (delivered seat state.facts seat.me + 1) load c.requires.can.fits (omega (arith, left))) state.legal.group.size.at_most_sixty_four state.legal.member in
    subst (λ (x : CastFields). KeepsCastRules x) (sym (is ∙ ap (λ (ps : List (List ℕ)). next_cast seat state.facts (Many ps)) c.in_ok-payloads.ensures)) rules
