use Rattle.std.proofs.Common.{◌≡◌, ◌-◌, List, ◌∷◌, [], ◌++◌, map, ap, ◌∙◌, subst, sym, arith}
use Rattle.cb_schedules.specs.Schedule as schedules
use Rattle.cb_world.specs.declared.outcome.Outcome.{Outcome}
use Rattle.cb_world.specs.declared.step.Step.{Step}
use Rattle.cb_world.specs.Steps.{step_fields}
use Rattle.cb_world.specs.World.{WorldState, run_in, and_step, IsWorld}
use Rattle.cb_world.proofs.Stepping.{steps_with, same_world, frames_stay, stepped}
use Rattle.cb_world.proofs.world.World.take.Goals as goal

pub overflow_sub-frame_count : goal.overflow_sub-frame_count
overflow_sub-frame_count c =
    let inside = c.self.inside in
    let w : WorldState = record { setting = record { group = inside.group; limit = inside.limit }; steps = map step_fields inside.steps.items } in
    let outcome : Outcome = record { answer = c.in_ok-answer.answer; first_frame = 0; frame_count = 0 } in
    let room = c.make_room.new in
    let world = same_world w inside.members.items inside.sent.items room.sent.items inside.outcomes.items room.outcomes.items c.self.invariant c.make_room.ensures.sent c.make_room.ensures.outcomes in
    omega (
      arith,
      c.len-first_frame.ensures,
      c.len.ensures,
      room.sent.ok.0,
      c.take.new.sent.ok.0,
      frames_stay w inside.members.items c.take.new.members.items room.sent.items c.take.new.sent.items room.outcomes.items (step_fields c.args.step.now) outcome world
          (c.in_ok-answer.ensures.taken w.setting (run_in w) world.stands),
    )

pub invariant_of-self-2 : goal.invariant_of-self-2
invariant_of-self-2 c =
    let inside = c.self.inside in
    let step = step_fields c.args.step.now in
    let w : WorldState = record { setting = record { group = inside.group; limit = inside.limit }; steps = map step_fields inside.steps.items } in
    let outcome : Outcome = record { answer = c.in_ok-answer.answer; first_frame = c.len-first_frame.result; frame_count = c.len.result - c.len-first_frame.result } in
    let room = c.make_room.new in
    let world = same_world w inside.members.items inside.sent.items room.sent.items inside.outcomes.items room.outcomes.items c.self.invariant c.make_room.ensures.sent c.make_room.ensures.outcomes in
    let taken = c.in_ok-answer.ensures.taken w.setting (run_in w) world.stands in
    let stay = frames_stay w inside.members.items c.take.new.members.items room.sent.items c.take.new.sent.items room.outcomes.items step outcome world taken in
    let after = stepped w inside.members.items c.take.new.members.items room.sent.items c.take.new.sent.items room.outcomes.items step outcome world taken
    (omega (arith, c.len-first_frame.ensures, room.sent.ok.0)) (omega (arith, stay, c.len-first_frame.ensures, c.len.ensures, room.sent.ok.0, c.take.new.sent.ok.0)) in
    let steps : map step_fields c.push_reserved-2.new.self.items ≡ w.steps ++ step ∷ [] =
    ap (map step_fields) (c.push_reserved-2.ensures.items ∙ ap (λ (ss : List Step). ss ++ c.in_ok-taken.taken ∷ []) c.make_room.ensures.steps) ∙ steps_with inside.steps.items c.in_ok-taken.taken step c.in_ok-taken.ensures in
    subst (λ (ss : List schedules.Step). IsWorld (record { setting = w.setting; steps = ss }) c.take.new.members.items c.take.new.sent.items c.push_reserved.new.self.items) (sym steps)
    (subst (λ (os : List Outcome). IsWorld (and_step w step) c.take.new.members.items c.take.new.sent.items os) (sym c.push_reserved.ensures.items) after)
