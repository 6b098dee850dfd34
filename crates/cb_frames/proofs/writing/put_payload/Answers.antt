use Rattle.std.proofs.Common.{arith}
use Rattle.cb_frames.proofs.PairsWritten.{payload_written}
use Rattle.cb_frames.proofs.writing.put_payload.Goals as goal

pub returns : goal.returns
returns c = payload_written c.extend_from_slice.result c.args.payload.now _ c.args.out.now.items c.put.new.out.items c.extend_from_slice.new.self.items (omega arith) c.in_ok-put.ensures.text c.extend_from_slice.ensures.items
