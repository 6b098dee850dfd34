use Rattle.std.proofs.Common.{arith}
use Rattle.cb_frames.proofs.Decoding.{longer_payload}
use Rattle.cb_frames.proofs.reading.whole_payload.Goals as goal

pub returns-then-bytes-length-2 : goal.returns-then-bytes-length-2
returns-then-bytes-length-2 c = longer_payload c.args.length c.args.bytes.now (omega (arith, c.if-bytes-length-2.true))
