use Rattle.std.proofs.Common.{◌≡◌, ◌+◌, drop, length, map}
use Rattle.cb_history.specs.Group.{Parameters}
use Rattle.cb_threads.specs.Groups.{AreKept, AreMembers, tally_in}
use Rattle.cb_threads.specs.Reports.{EachHandsBack, TellFailures}
use Rattle.cb_threads.proofs.life.join_all.Given as goal

-- the first members' lives are kept, and the others are to come
abbrev pub invariant-loop-handle : goal.invariant-loop-handle
invariant-loop-handle g l =
    record {
      kept : (length l.report.histories.items + length l.handle-iterator.rest.items ≡ length l.fn.handles.items)
          × ((group : Parameters) → AreMembers group 0 (map (λ h. h.promise) l.fn.handles.items)
          → AreKept group 0 l.report.histories.items (map tally_in l.report.reports.items) × AreMembers group (length l.report.histories.items) (map (λ h. h.promise) l.handle-iterator.rest.items));
      parts : EachHandsBack l.report.reports.items;
      failures : (drop (length l.report.reports.items) (map (λ h. h.promise.before) l.fn.handles.items) ≡ map (λ h. h.promise.before) l.handle-iterator.rest.items)
          × TellFailures g.I.Inlet.failed g.O.Outlet.failed g.P.Pace.failed (map (λ h. h.promise.before) l.fn.handles.items) l.report.reports.items;
    }
