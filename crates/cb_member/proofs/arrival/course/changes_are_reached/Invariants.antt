use Rattle.std.proofs.Common.{◌≡◌, take}
use Rattle.std.specs.Prelude.{All}
use Rattle.cb_member.proofs.Ready.{IsReached}
use Rattle.cb_member.proofs.arrival.course.changes_are_reached.Given as goal

abbrev pub invariant-loop-change : goal.invariant-loop-change
invariant-loop-change l = record {
  items : l.change-items ≡ l.cast.changes.items;
  reached : All (IsReached l.cast.sender l.stamps l.counts) (take l.change-index l.change-items);
}
