use Rattle.std.proofs.Common.{◌≡◌, ◌<◌, ◌≤◌, ◌-◌, ℕ, length, map}
use Rattle.cb_times.specs.Order.{field}
use Rattle.cb_delay.specs.Index.{HasShape, Tells}
use Rattle.cb_delay.proofs.index.Index.go_to.Given as goal

abbrev pub decreases-loop-k : goal.decreases-loop-k
decreases-loop-k l = length l.now - l.k

-- the fields before the next that differs are those of the new time
abbrev pub invariant-loop-k : goal.invariant-loop-k
invariant-loop-k l = record {
  within : l.k ≤ length l.now;
  shape : HasShape (length l.now) l.self;
  same : (j : ℕ) → j < l.k → field l.self.last j ≡ field l.now j;
  placed : Tells (map (λ list. list.items) l.lists) l.fn.self → Tells (map (λ list. list.items) l.lists) l.self;
  still : l.fn.self.last ≡ l.now → (l.k ≡ length l.now) × (l.self.stale ≡ l.fn.self.stale);
  looked : l.self.looked ≡ l.fn.self.looked;
}
