use Rattle.std.proofs.Common.{◌≡◌, length}
use Rattle.std.specs.List.{AllByRecursion}
use Rattle.confer_play.specs.Playing.{IsNew}
use Rattle.confer_play.proofs.rooms.new_attendances.Given as goal

abbrev pub invariant-loop : goal.invariant-loop
invariant-loop l = record {
  many : length l.attendances.items ≡ l.counter;
  new : AllByRecursion IsNew l.attendances.items;
}
