use Rattle.std.proofs.Common.{arith, sym, ◌∙◌}
use Rattle.cb_frames.specs.Fields.{One}
use Rattle.cb_member.proofs.Judging.{payload_too_long, refuses_window}
use Rattle.cb_member.proofs.state.State.judge_payload.Goals as goal

pub returns-then-payload-gt-LONGEST_PAYLOAD : goal.returns-then-payload-gt-LONGEST_PAYLOAD
returns-then-payload-gt-LONGEST_PAYLOAD c facts are keeps limit entries same =
    payload_too_long c.args.self.now.seat limit entries (One c.args.payload.now) (omega arith) (omega arith) c.if-payload-gt-LONGEST_PAYLOAD.true

pub returns-then-room-eq0 : goal.returns-then-room-eq0
returns-then-room-eq0 c facts are keeps =
    let none = sym c.room.ensures.room ∙ c.if-room-eq0.true in
    refuses_window c.args.self.now facts (One c.args.payload.now) are keeps (record { some = omega arith; few = omega arith; short = omega (arith, c.if-payload-gt-LONGEST_PAYLOAD.false) }) (omega (arith, none))
