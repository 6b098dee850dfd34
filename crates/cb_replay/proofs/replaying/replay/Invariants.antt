use Rattle.std.proofs.Common.{◌≡◌, map, take}
use Rattle.cb_history.specs.Facts.{entry_fields}
use Rattle.cb_replay.proofs.replaying.replay.Given as goal

-- the member has the entries so far
abbrev pub invariant-loop-entry : goal.invariant-loop-entry
invariant-loop-entry l = record {
  seat : l.member.seat ≡ l.fn.member.seat;
  limit : l.member.limit ≡ l.fn.member.limit;
  entries : l.member.entries ≡ map entry_fields (take l.entry-index l.entries);
}
