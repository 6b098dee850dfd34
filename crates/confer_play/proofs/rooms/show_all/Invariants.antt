use Rattle.std.proofs.Common.{◌≡◌, drop}
use Rattle.confer_play.specs.Playing.{lines_with}
use Rattle.confer_play.proofs.rooms.show_all.Given as goal

-- what was shown so far, and the events still to come
abbrev pub invariant-loop-event : goal.invariant-loop-event
invariant-loop-event l = record {
  screen : l.conference.screen ≡ l.fn.conference.screen;
  lines : lines_with l.conference.lines (drop l.event-index l.events) ≡ lines_with l.fn.conference.lines l.events;
}
