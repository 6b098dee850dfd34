use Rattle.std.proofs.Common.{◌≤◌, length, map, refl, inl, inr, arith, sym}
use Rattle.std.proofs.lemmas.Bool.{cases_lt}
use Rattle.std.proofs.lemmas.Result.{IfOk-weaker}
use Rattle.cb_world.specs.Outcomes.{sent_fields}
use Rattle.cb_world.specs.Steps.{step_fields, member_of}
use Rattle.cb_world.specs.Taking.{asks, HasDone}
use Rattle.cb_world.proofs.Taken.{nobody_takes, member_takes}
use Rattle.cb_world.proofs.taking.take.Goals as goal

pub returns-in-None-clause-taken : goal.returns-in-None-clause-taken
returns-in-None-clause-taken c setting s stands =
    let members = c.args.members.now in
    let beyond : length members.items ≤ member_of (step_fields c.args.step.now) =
    elim (cases_lt c.member.result (length members.items)) as (λ _. length members.items ≤ member_of (step_fields c.args.step.now)) [
      | inl within ↦ let wrong = c.in-None.ensures.variant.1 (omega (arith, within, members.ok.0)) in cc
      | inr outside ↦ omega (arith, outside, c.member.ensures)
    ] in
    nobody_takes setting s members.items c.args.sent.now.items stands _ members.items c.args.sent.now.items _ beyond refl refl refl

pub returns-in-Some-clause-taken : goal.returns-in-Some-clause-taken
returns-in-Some-clause-taken c =
    let members = c.args.members.now in
    let sent = c.args.sent.now.items in
    let some = c.in-Some.ensures in
    IfOk-weaker c.call.result (HasDone c.in-Some.member.now c.call.new.member (asks (map sent_fields sent) (step_fields c.args.step.now)) (map sent_fields sent) (map sent_fields c.call.new.sent.items)) _
    (λ answer did setting s stands.
    member_takes setting s members.items sent stands c.member.result (omega (arith, some.variant.0 refl, members.ok.0)) c.in-Some.member.now c.call.new.member some.value (step_fields c.args.step.now) _
    c.call.new.sent.items answer (sym c.member.ensures) refl did) c.call.ensures.done
