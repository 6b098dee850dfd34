use Rattle.std.proofs.Common.{◌≡◌, length}
use Rattle.cb_stability.proofs.Unknown.{AreZero}
use Rattle.cb_stability.proofs.acks.Acks.new.Given as goal

-- the rows so far are of this size, and all zero
abbrev pub invariant-loop : goal.invariant-loop
invariant-loop l = record { made : length l.rows.items ≡ l.counter; zero : AreZero l.size l.rows.items }
