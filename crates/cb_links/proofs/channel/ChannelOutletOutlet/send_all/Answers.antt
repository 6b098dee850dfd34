use Rattle.std.proofs.Common.{arith}
use Rattle.cb_links.proofs.Sending.{none_more, offered_more}
use Rattle.cb_links.proofs.channel.ChannelOutletOutlet.send_all.Goals as goal

pub loop-frame-preserved : goal.loop-frame-preserved
loop-frame-preserved g c = (
  omega (arith, c.loop-frame.invariant.0, c.count-answer.ensures.rises),
  c.and-unsent.ensures.met _ _ c.count-answer.ensures.rises c.count-answer.ensures.fault _ c.loop-frame.invariant.1,
  offered_more _ _ _ c.loop-frame.frame-index c.and-unsent.ensures.answer c.loop-frame.invariant.2,
  none_more _ _ _ _ _ _ c.and-unsent.ensures.answer c.loop-frame.invariant.3 c.count-answer.ensures.taken c.count-answer.ensures.fault,
)
