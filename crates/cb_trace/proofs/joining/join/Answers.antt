use Rattle.std.proofs.Common.{ℕ, ◌<◌, List, length, map, Option, Some, sym, subst}
use Rattle.cb_world.specs.declared.step.Step.{Step}
use Rattle.cb_world.specs.Steps.{step_fields, member_of}
use Rattle.cb_world.specs.World.{run_in}
use Rattle.cb_trace.specs.Text.{history_fields}
use Rattle.cb_trace.specs.Auditing.{entries_at}
use Rattle.cb_trace.specs.Search.{SaysFirstStep}
use Rattle.cb_trace.proofs.OneStep.{joined, joining_on, left_over, less_left, inside, few}
use Rattle.cb_trace.proofs.joining.join.Goals as goal

abbrev Says : (c : goal.In_ok-take) → Option Step → Type 0
Says c step = SaysFirstStep (entries_at (map history_fields c.args.histories.now)) c.loop-step.joining.gone.items (run_in c.loop-step.joining.world).sent step

found : (c : goal.In_ok-take) → Says c (Some c.in-Some.step)
found c = subst (Says c) c.in-Some.is (c.in_ok-step.ensures (run_in c.loop-step.joining.world).sent c.loop-step.invariant.frames)

pub loop-step-preserved : goal.loop-step-preserved
loop-step-preserved c =
    joining_on c.args.joining.now.world.setting (map history_fields c.args.histories.now) c.requires.legal c.loop-step.joining c.loop-step.invariant c.take.new.joining c.in-Some.step (found c)
    c.in_ok-take.ensures

pub loop-step-smaller : goal.loop-step-smaller
loop-step-smaller c =
    let histories = map history_fields c.args.histories.now in
    let counts = c.loop-step.joining.gone.items in
    let says = found c in
    let taken = c.in_ok-take.ensures in
    let inside : member_of (step_fields c.in-Some.step) < length counts =
    inside c.args.joining.now.world.setting histories c.requires.legal c.loop-step.joining c.loop-step.invariant c.take.new.joining c.in-Some.step says in
    subst (λ (after : List ℕ). left_over histories after < left_over histories counts) (sym taken.counts) (less_left histories counts (member_of (step_fields c.in-Some.step)) says.0 says.1 inside)

pub returns : goal.returns
returns c =
    let histories = map history_fields c.args.histories.now in
    let sent = (run_in c.loop-step.joining.world).sent in
    joined c.args.joining.now.world.setting histories c.requires.legal c.loop-step.joining c.loop-step.invariant
    (subst (λ (o : Option Step). SaysFirstStep (entries_at histories) c.loop-step.joining.gone.items sent o) c.in_default.is (c.in_ok-step.ensures sent c.loop-step.invariant.frames))

pub take-requires-clause-member : goal.take-requires-clause-member
take-requires-clause-member c =
    let histories = map history_fields c.args.histories.now in
    let old = c.loop-step.joining in
    let says : SaysFirstStep (entries_at histories) old.gone.items (run_in old.world).sent (Some c.in-Some.step) =
    subst (λ (o : Option Step). SaysFirstStep (entries_at histories) old.gone.items (run_in old.world).sent o) c.in-Some.is (c.in_ok-step.ensures (run_in old.world).sent c.loop-step.invariant.frames) in
    inside c.args.joining.now.world.setting histories c.requires.legal old c.loop-step.invariant old c.in-Some.step says

pub take-requires-clause-few : goal.take-requires-clause-few
take-requires-clause-few c =
    let histories = map history_fields c.args.histories.now in
    let old = c.loop-step.joining in
    let says : SaysFirstStep (entries_at histories) old.gone.items (run_in old.world).sent (Some c.in-Some.step) =
    subst (λ (o : Option Step). SaysFirstStep (entries_at histories) old.gone.items (run_in old.world).sent o) c.in-Some.is (c.in_ok-step.ensures (run_in old.world).sent c.loop-step.invariant.frames) in
    few c.args.joining.now.world.setting histories c.requires.legal old c.loop-step.invariant old c.in-Some.step says
