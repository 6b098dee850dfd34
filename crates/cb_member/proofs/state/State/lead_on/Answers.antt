use Rattle.std.proofs.Common.{arith}
use Rattle.cb_frames.specs.Fields.{cast_fields}
use Rattle.cb_member.proofs.Going.{goes_on, waits_at_most}
use Rattle.cb_member.proofs.state.State.lead_on.Goals as goal

pub drain-requires-clause-room : goal.drain-requires-clause-room
drain-requires-clause-room c =
    let room = c.requires.room in
    let fits = room.fits in
    omega (arith, fits, waits_at_most (cast_fields c.args.cast) c.args.self.now c.take_in_at_once.new.self c.requires.can.can c.take_in_at_once.ensures.takes room.count room.holds)

pub returns : goal.returns
returns c = goes_on (cast_fields c.args.cast) c.args.self.now c.take_in_at_once.new.self c.requires.can.can c.take_in_at_once.ensures.takes c.drain.new.self c.args.events.now c.drain.new.events c.drain.ensures.drained c.drain.ensures.few
