use Rattle.std.proofs.Common.{List, [], ◌∷◌, ℕ, arith, subst, ap, length, ◌∙◌}
use Rattle.cb_frames.specs.Text.{AppendsPayloads}
use Rattle.cb_frames.proofs.PairsWritten.{payload_short, payloads_go_on}
use Rattle.cb_frames.proofs.writing.put_payloads.Goals as goal

pub put_payload-requires : goal.put_payload-requires
put_payload-requires c =
    let short = payload_short c.args.payloads.now c.loop-payload.payload-index c.payload-item.result c.loop-payload-test.true in
    omega (arith, short, ap length (c.as_slice.ensures ∙ c.payload-item.is), c.requires)

pub loop-payload-preserved : goal.loop-payload-preserved
loop-payload-preserved c =
    let p = c.payload-item.result in
    let here = subst (λ (x : List ℕ). AppendsPayloads c.loop-payload.out.items c.put_payload.new.out.items (x ∷ [])) c.as_slice.ensures c.in_ok-put_payload.ensures in
    payloads_go_on c.args.payloads.now c.loop-payload.payload-index p c.args.out.now.items c.loop-payload.out.items c.put_payload.new.out.items c.loop-payload-test.true c.payload-item.is c.loop-payload.invariant here
