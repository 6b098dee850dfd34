use Rattle.std.proofs.Common.{ap, rules}
use Rattle.std.specs.declared.alloc.Global.{Global}
use Rattle.std.specs.declared.vec.Vec.{Vec}
use Rattle.cb_history.specs.declared.answer.Outgoing.{Outgoing}
use Rattle.cb_node.specs.declared.ends.Counts.{Counts}
use Rattle.cb_node.proofs.Sending.{sent_more}
use Rattle.cb_node.proofs.ends.Ends.send.Goals as goal

pub loop-frames-preserved : goal.loop-frames-preserved
loop-frames-preserved g c =
    sent_more (λ (v : Vec Outgoing Global). v.items) c.args.post.now c.frames-item.result c.loop-frames.self.counts.offered c.and_sent.new.self.offered c.send_all-unsent.result.offered c.loop-frames.frames-index _
    c.loop-frames-test.true c.frames-item.is (ap (λ (k : Counts). k.offered) c.and_sent.ensures) (search rules) c.loop-frames.invariant
