use Rattle.std.proofs.Common.{◌≡◌, ◌+◌, All, length}
use Rattle.cb_member.proofs.singles.Spares.for_cast.Given as goal

-- so many others, each of the group's size
abbrev pub invariant-loop : goal.invariant-loop
invariant-loop l = record {
  many : length l.others.items + 1 ≡ l.counter;
  sizes : All (λ time. length time ≡ l.size) l.others.items;
}
