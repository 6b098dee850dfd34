use Rattle.std.proofs.Common.{◌≡◌}
use Rattle.cb_links.specs.Counts.{MetAtMost}
use Rattle.cb_threads.specs.Offers.{FailuresAreLost}
use Rattle.cb_threads.proofs.workers.sender.WorkerMailboxVecOutgoingJob.run.Given as goal

-- what was met so far was counted, and lost; all frames that were taken were offered
abbrev pub invariant-loop : goal.invariant-loop
invariant-loop g l =
    record {
      met : MetAtMost l.worked.failures (g.O.Outlet.failed l.fn.self.part) (g.O.Outlet.failed l.worked.part);
      lost : FailuresAreLost l.worked.failures l.worked.lost;
      offered : l.worked.offered ≡ l.lists.taken;
    }
