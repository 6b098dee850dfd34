use Rattle.std.proofs.Common.{◌≡◌, drop, map}
use Rattle.confer_play.specs.Playing.{AreShown, order_of}
use Rattle.confer_play.proofs.Printing.{Continues}
use Rattle.confer_play.proofs.running.put_steps.Given as goal

-- what was put so far, with what is still to come
abbrev pub invariant-loop-step : goal.invariant-loop-step
invariant-loop-step l = record {
  number : l.number ≡ l.step-index;
  shown : AreShown l.fn.rooms.world l.fn.rooms.attendances.items → AreShown l.rooms.world l.rooms.attendances.items;
  puts : AreShown l.fn.rooms.world l.fn.rooms.attendances.items
      → Continues l.fn.rooms.world (map order_of l.steps) l.fn.text.items l.number l.rooms.world (map order_of (drop l.step-index l.steps)) l.text.items;
}
