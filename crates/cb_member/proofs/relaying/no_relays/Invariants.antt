use Rattle.std.proofs.Common.{◌≡◌, length, All}
use Rattle.cb_member.specs.Relaying.{IsWithoutFrames}
use Rattle.cb_member.proofs.relaying.no_relays.Given as goal

-- so many without frames
abbrev pub invariant-loop : goal.invariant-loop
invariant-loop l = record {
  many : length l.relays.items ≡ l.counter;
  each : All (IsWithoutFrames l.window) l.relays.items;
}
