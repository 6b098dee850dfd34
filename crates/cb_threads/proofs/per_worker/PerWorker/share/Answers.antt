use Rattle.std.proofs.Common.{subst}
use Rattle.std.specs.Prelude.{IfOk}
use Rattle.cb_history.specs.Group.{Identity}
use Rattle.cb_threads.specs.Groups.{IsLife}
use Rattle.cb_threads.specs.Reports.{failures_in}
use Rattle.cb_threads.proofs.per_worker.PerWorker.share.Goals as goal

pub returns : goal.returns
returns g c =
    let before = failures_in g.I.Inlet.failed g.O.Outlet.failed g.P.Pace.failed c.args.self in
    subst (λ (seat : Identity). IfOk c.closed.result (λ kept. IsLife g.I.Inlet.failed g.O.Outlet.failed g.P.Pace.failed seat.group seat.me before kept)) c.seat-identity.ensures.seat
    (c.closed.ensures before c.run_at-report.ensures.failures)
