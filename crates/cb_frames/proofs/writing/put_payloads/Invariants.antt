use Rattle.std.proofs.Common.{take}
use Rattle.cb_frames.specs.Text.{AppendsPayloads}
use Rattle.cb_frames.proofs.writing.put_payloads.Given as goal

abbrev pub invariant-loop-payload : goal.invariant-loop-payload
invariant-loop-payload l = AppendsPayloads l.fn.out.items l.out.items (take l.payload-index l.payloads)
