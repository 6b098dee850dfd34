use Rattle.std.proofs.Common.{◌≡◌, ◌+◌, ◌++◌, length, map}
use Rattle.cb_threads.specs.Groups.{AreMembers}
use Rattle.cb_threads.specs.Reports.{failures_in}
use Rattle.cb_threads.proofs.life.Setting.start_all.Given as goal

-- those that were started are the first members, with the failures of their parts, and the others are to come
abbrev pub invariant-loop-part : goal.invariant-loop-part
invariant-loop-part g l =
    record {
      members : (l.me ≡ length l.handles.items)
          × (l.me + length l.part-iterator.rest.items ≡ l.fn.self.group.size)
          × AreMembers l.fn.self.group 0 (map (λ h. h.promise) l.handles.items);
      failures : map (λ h. h.promise.before) l.handles.items ++ map (failures_in g.I.Inlet.failed g.O.Outlet.failed g.P.Pace.failed) l.part-iterator.rest.items
          ≡ map (failures_in g.I.Inlet.failed g.O.Outlet.failed g.P.Pace.failed) l.fn.parts.items;
    }
