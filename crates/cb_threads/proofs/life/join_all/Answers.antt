use Rattle.std.proofs.Common.{arith, length, map}
use Rattle.std.proofs.lemmas.List.{length-map}
use Rattle.cb_threads.proofs.Order.{ends_next, tells_next}
use Rattle.cb_threads.proofs.life.join_all.Goals as goal

pub loop-handle-preserved : goal.loop-handle-preserved
loop-handle-preserved g c =
    let next = ends_next g.I.Inlet.failed g.O.Outlet.failed g.P.Pace.failed (λ h. h.promise) (length c.args.handles.items) (map (λ h. h.promise) c.args.handles.items) c.loop-handle.report.histories.items c.add.new.self.histories.items c.loop-handle.report.reports.items c.add.new.self.reports.items
    c.loop-handle.handle-iterator.rest.items c.next.new.self.rest.items c.in-Some.handle c.in_ok-kept.kept c.loop-handle.invariant.kept c.loop-handle.invariant.parts c.in-Some.ensures.steps.0 c.in_ok-kept.ensures c.in_ok-add.ensures in
    let reported = tells_next g.I.Inlet.failed g.O.Outlet.failed g.P.Pace.failed (λ h. h.promise) (map (λ h. h.promise.before) c.args.handles.items) c.loop-handle.report.histories.items c.add.new.self.histories.items c.loop-handle.report.reports.items c.add.new.self.reports.items c.loop-handle.handle-iterator.rest.items
    c.next.new.self.rest.items c.in-Some.handle c.in_ok-kept.kept c.loop-handle.invariant.failures c.in-Some.ensures.steps.0 c.in_ok-kept.ensures c.in_ok-add.ensures in
    record { kept = next.0; parts = next.1; failures = reported }

pub returns : goal.returns
returns g c = λ group members.
    let kept = c.loop-handle.invariant.kept.1 group members in
    record {
      members = omega (arith, c.loop-handle.invariant.kept.0, c.in-None.ensures.steps.0, c.loop-handle.handle-iterator.rest.ok.0, length-map c.args.handles.items (λ h. h.promise.before));
      histories = kept.0;
      parts = c.loop-handle.invariant.parts;
      failures = c.loop-handle.invariant.failures.1;
    }
