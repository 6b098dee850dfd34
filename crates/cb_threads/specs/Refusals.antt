-- Arrivals that a member refuses.
use Rattle.std.specs.Prelude.{ℕ, ◌+◌}
use Rattle.cb_links.specs.Counts.{held}
use Rattle.cb_threads.specs.declared.workers.turns.Turn.{Turn}
use Rattle.cb_threads.specs.declared.workers.turns.Turn.TheVariants as turns

-- how many were refused, with one turn more
abbrev pub refused_with : ℕ → Turn → ℕ
refused_with n turns.Done = n
refused_with n turns.Refused = held (n + 1)
refused_with n turns.Idle = n
refused_with n turns.Finished = n
