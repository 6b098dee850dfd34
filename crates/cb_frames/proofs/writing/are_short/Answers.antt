use Rattle.std.proofs.Common.{arith, ap, length}
use Rattle.cb_frames.proofs.PairsWritten.{payload_short, room_goes_on}
use Rattle.cb_frames.proofs.writing.are_short.Goals as goal

pub returns-then-len-room : goal.returns-then-len-room
returns-then-len-room c =
    let i = c.loop-payload.payload-index in
    let p = c.payload-item.result in (
      λ t. absurd cc,
      λ fits. absurd (omega (arith, payload_short c.args.payloads.now i p c.loop-payload-test.true, ap length c.payload-item.is, c.len.ensures.value, c.loop-payload.invariant, c.if-len-room.true, fits)),
    )

pub loop-payload-preserved : goal.loop-payload-preserved
loop-payload-preserved c =
    let p = c.payload-item.result in
    rw c.len-room.ensures.value (room_goes_on c.args.payloads.now c.loop-payload.payload-index p c.loop-payload.room c.loop-payload-test.true c.payload-item.is c.loop-payload.invariant (omega (arith, c.if-len-room.false, c.len.ensures.value)))
