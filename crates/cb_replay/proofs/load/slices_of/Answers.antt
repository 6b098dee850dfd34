use Rattle.std.proofs.Common.{rules}
use Rattle.cb_replay.proofs.Replays.{payload_more}
use Rattle.cb_replay.proofs.load.slices_of.Goals as goal

pub loop-payload-preserved : goal.loop-payload-preserved
loop-payload-preserved c = payload_more c.args.payloads.now c.loop-payload.payload-index c.payload-item.result c.loop-payload-test.true c.payload-item.is _ _ c.loop-payload.invariant (search rules)
