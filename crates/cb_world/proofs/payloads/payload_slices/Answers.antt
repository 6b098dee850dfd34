use Rattle.std.proofs.Common.{rules}
use Rattle.cb_world.proofs.Bursts.{bytes_more, payload_more}
use Rattle.cb_world.proofs.payloads.payload_slices.Goals as goal

pub loop-payload-preserved : goal.loop-payload-preserved
loop-payload-preserved c =
    let payloads = c.args.payloads.now in
    let i = c.loop-payload.payload-index in
    record {
      slices = payload_more payloads i c.payload-item.result c.loop-payload-test.true c.payload-item.is _ _ c.loop-payload.invariant.slices (search rules);
      bytes = bytes_more payloads i c.payload-item.result c.loop-payload-test.true c.payload-item.is c.loop-payload.invariant.bytes (search rules);
    }
