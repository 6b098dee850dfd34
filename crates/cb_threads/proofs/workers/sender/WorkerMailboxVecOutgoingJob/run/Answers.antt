use Rattle.std.proofs.Common.{◌≡◌, ◌+◌, Option, length, subst, ap, sym, ◌∙◌}
use Rattle.std.specs.declared.vec.Vec.{Vec}
use Rattle.std.specs.declared.alloc.Global.{Global}
use Rattle.cb_history.specs.declared.answer.Outgoing.{Outgoing}
use Rattle.cb_links.specs.Counts.{held}
use Rattle.cb_threads.specs.Offers.{taken_with}
use Rattle.cb_threads.proofs.workers.sender.WorkerMailboxVecOutgoingJob.run.Goals as goal

pub loop-preserved : goal.loop-preserved
loop-preserved g c =
    let taken = subst (λ (r : Option (Vec Outgoing Global)). c.take.new.self.taken ≡ taken_with c.loop.lists.taken r) c.in-Some-take.is c.take.ensures in
    record {
      met = c.send.ensures.met _ c.loop.invariant.met;
      lost = c.send.ensures.stay c.loop.invariant.lost;
      offered = c.send.ensures.offered ∙ (ap (λ n. held (n + length c.in-Some-take.frames.items)) c.loop.invariant.offered ∙ sym taken);
    }
