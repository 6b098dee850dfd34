use Rattle.std.proofs.Common.{arith}
use Rattle.cb_frames.specs.Fields.{unit_fields}
use Rattle.cb_member.proofs.Going.{goes_on, waits_at_most}
use Rattle.cb_member.proofs.state.State.let_go.Goals as goal

pub drain-requires-clause-room : goal.drain-requires-clause-room
drain-requires-clause-room c =
    let room = c.requires.room in
    let fits = room.fits in
    omega (arith, fits, waits_at_most (unit_fields c.args.unit) c.args.self.now c.take_in.new.self c.requires.can.can c.take_in.ensures room.count room.holds)

pub returns : goal.returns
returns c = goes_on (unit_fields c.args.unit) c.args.self.now c.take_in.new.self c.requires.can.can c.take_in.ensures c.drain.new.self c.args.events.now c.drain.new.events c.drain.ensures.drained c.drain.ensures.few
