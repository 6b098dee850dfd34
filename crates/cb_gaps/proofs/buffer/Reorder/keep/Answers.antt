use Rattle.std.proofs.Common.{◌≤◌, arith}
use Rattle.cb_gaps.specs.Lists.{first_of, last_of, IsReceivedAnswer, IsFreePlace}
use Rattle.cb_frames.proofs.Carried.{numbered_filled}
use Rattle.cb_gaps.proofs.Kept.{received_answer, all_lacking, keep_room, keep_keeps, keep_gives}
use Rattle.cb_gaps.proofs.buffer.Reorder.keep.Goals as goal

pub returns-in-Err-clause-answer : goal.returns-in-Err-clause-answer
returns-in-Err-clause-answer c =
    let received : IsReceivedAnswer c.self.inside.taken c.self.inside.kept.items (first_of c.args.unit) (last_of c.args.unit) c.in-Err.received =
    rw (c.first.ensures, c.last-last.ensures) at c.in-Err.ensures.received in
    rw (← c.self.view_is)
    (received_answer c.self.inside.window c.self.inside.taken c.self.inside.kept.items c.self.invariant.0 c.args.delivered (first_of c.args.unit)
    (last_of c.args.unit) c.in-Err.received received)

pub returns-then-last-saturating_add-clause-answer : goal.returns-then-last-saturating_add-clause-answer
returns-then-last-saturating_add-clause-answer c =
    let free : IsFreePlace c.self.inside.taken c.self.inside.kept.items (first_of c.args.unit) (last_of c.args.unit) c.in-Ok.place =
    rw (c.first.ensures, c.last-last.ensures) at c.in-Ok.ensures.place in
    rw (← c.self.view_is) (
      all_lacking c.self.inside.window c.self.inside.taken c.self.inside.kept.items c.self.invariant.0 (first_of c.args.unit) (last_of c.args.unit)
          c.in-Ok.place free,
      omega (arith, c.last-last.type_inv, c.if-last-saturating_add.true, c.saturating_add.ensures, c.last-last.ensures),
    )

pub put-requires-clause-room : goal.put-requires-clause-room
put-requires-clause-room c =
    let free : IsFreePlace c.self.inside.taken c.self.inside.kept.items (first_of c.args.unit) (last_of c.args.unit) c.in-Ok.place =
    rw (c.first.ensures, c.last-last.ensures) at c.in-Ok.ensures.place in
    let order : c.args.delivered ≤ c.self.inside.taken = rw (← c.self.view_is) at c.requires.order in
    let room = keep_room c.self.inside.window c.self.inside.taken c.self.inside.kept.items c.self.invariant.0 c.in-Ok.place c.args.delivered
    c.args.unit free (numbered_filled c.args.unit c.requires.numbers) (omega (arith, c.last-last.type_inv, c.last-last.ensures)) order
    (omega (arith, c.if-last-saturating_add.false, c.saturating_add.ensures, c.last-last.ensures)) in
    omega (arith, room, c.self.invariant.1, c.self.inside.kept.ok.0)

pub invariant_of-self : goal.invariant_of-self
invariant_of-self c =
    let free : IsFreePlace c.self.inside.taken c.self.inside.kept.items (first_of c.args.unit) (last_of c.args.unit) c.in-Ok.place =
    rw (c.first.ensures, c.last-last.ensures) at c.in-Ok.ensures.place in
    let order : c.args.delivered ≤ c.self.inside.taken = rw (← c.self.view_is) at c.requires.order in (
      rw c.put.ensures.items
          (keep_keeps c.self.inside.window c.self.inside.taken c.self.inside.kept.items c.self.invariant.0 c.in-Ok.place c.args.delivered
          c.args.unit free (numbered_filled c.args.unit c.requires.numbers) (omega (arith, c.last-last.type_inv, c.last-last.ensures)) order
          (omega (arith, c.if-last-saturating_add.false, c.saturating_add.ensures, c.last-last.ensures))),
      omega (arith, c.put.ensures.capacity, c.self.invariant.1),
    )

pub returns-clause-answer : goal.returns-clause-answer
returns-clause-answer c =
    let free : IsFreePlace c.self.inside.taken c.self.inside.kept.items (first_of c.args.unit) (last_of c.args.unit) c.in-Ok.place =
    rw (c.first.ensures, c.last-last.ensures) at c.in-Ok.ensures.place in
    rw (← c.self.view_is) (
      all_lacking c.self.inside.window c.self.inside.taken c.self.inside.kept.items c.self.invariant.0 (first_of c.args.unit) (last_of c.args.unit)
          c.in-Ok.place free,
      omega (arith, c.if-last-saturating_add.false, c.saturating_add.ensures, c.last-last.ensures),
    )

pub returns-clause-after : goal.returns-clause-after
returns-clause-after c =
    let free : IsFreePlace c.self.inside.taken c.self.inside.kept.items (first_of c.args.unit) (last_of c.args.unit) c.in-Ok.place =
    rw (c.first.ensures, c.last-last.ensures) at c.in-Ok.ensures.place in
    let order : c.args.delivered ≤ c.self.inside.taken = rw (← c.self.view_is) at c.requires.order in
    rw (← c.self.view_is, c.put.ensures.items)
    (keep_gives c.self.inside.window c.self.inside.taken c.self.inside.kept.items c.self.invariant.0 c.in-Ok.place c.args.delivered
    c.args.unit free (numbered_filled c.args.unit c.requires.numbers) (omega (arith, c.last-last.type_inv, c.last-last.ensures)) order
    (omega (arith, c.if-last-saturating_add.false, c.saturating_add.ensures, c.last-last.ensures)))
