use Rattle.std.proofs.Common.{map}
use Rattle.cb_threads.specs.Reports.{failures_in}
use Rattle.cb_threads.proofs.Order.{does_next, starts}
use Rattle.cb_threads.proofs.life.Setting.start_all.Goals as goal

pub loop-part-preserved : goal.loop-part-preserved
loop-part-preserved g c =
    let failures = failures_in g.I.Inlet.failed g.O.Outlet.failed g.P.Pace.failed in
    let members = starts (λ h. h.promise) c.args.self.now.group c.loop-part.me c.args.self.now.group.size c.loop-part.handles.items c.push.new.self.items c.loop-part.part-iterator.rest.items c.next.new.self.rest.items c.in_ok-handle.handle c.in-Some.part
    c.loop-part.invariant.members c.in-Some.ensures.steps.0 c.in_ok-push.ensures.items c.in_ok-handle.ensures.0 c.in_ok-handle.ensures.1 in
    let before = does_next (λ h. h.promise.before) failures c.loop-part.handles.items c.push.new.self.items c.loop-part.part-iterator.rest.items c.next.new.self.rest.items (map failures c.args.parts.items) c.in_ok-handle.handle c.in-Some.part
    c.loop-part.invariant.failures c.in-Some.ensures.steps.0 c.in_ok-push.ensures.items c.in_ok-handle.ensures.2 in
    record { members = members; failures = before }
